-- Where each number of the state stands in its row of bytes. A number of 16 or 32 bits stands low byte first, a frame byte after byte.
use Rattle.std.specs.Prelude.{ℕ}

-- retries and channel of 0x05
abbrev pub sending : ℕ
sending = 0

-- and of 0x06
abbrev pub message : ℕ
message = 2

-- 0x07
abbrev pub error : ℕ
error = 4

-- recessive slots in a row
abbrev pub count : ℕ
count = 5

-- the slot of the phase
abbrev pub slot : ℕ
slot = 6

-- whole nibbles taken
abbrev pub nibbles : ℕ
nibbles = 7

-- bits of the nibble under way
abbrev pub bits : ℕ
bits = 8

-- the channel that takes the frame
abbrev pub winner_channel : ℕ
winner_channel = 9

-- its M_L
abbrev pub length : ℕ
length = 10

-- the channel of the service
abbrev pub channel : ℕ
channel = 11

-- data bytes of the frame to be sent
abbrev pub own_data : ℕ
own_data = 12

-- MR
abbrev pub setting : ℕ
setting = 13

-- the channel of the reply
abbrev pub reply_channel : ℕ
reply_channel = 14

-- data bytes of the reply
abbrev pub reply_data : ℕ
reply_data = 15

-- the levels of the last slot
abbrev pub levels : ℕ
levels = 16

-- the pointer of the channel that takes the frame
abbrev pub pointer : ℕ
pointer = 17

-- attempts that failed
abbrev pub errors : ℕ
errors = 18

-- dominant slots in a row
abbrev pub dominant : ℕ
dominant = 22

-- edges on RxD1
abbrev pub rxd1 : ℕ
rxd1 = 26

-- edges on RxD2
abbrev pub rxd2 : ℕ
rxd2 = 30

-- edges on the input connected
abbrev pub connected : ℕ
connected = 34

-- the slot of the frame that is driven next
abbrev pub next : ℕ
next = 38

-- the slot of the reply that is driven next
abbrev pub reply_next : ℕ
reply_next = 40

-- slots of the SDC period
abbrev pub period : ℕ
period = 42

-- slots of attempts
abbrev pub slots : ℕ
slots = 46

-- attempts lost
abbrev pub lost : ℕ
lost = 50

-- the mode
abbrev pub mode : ℕ
mode = 54

-- an idle waits
abbrev pub waiting : ℕ
waiting = 55

-- RST, TE, TOK, RE, ROK, RNOK
abbrev pub flags : ℕ
flags = 56

-- a good frame came last
abbrev pub good : ℕ
good = 62

-- the phase of the frame under way
abbrev pub phase : ℕ
phase = 63

-- a channel takes the frame
abbrev pub matched : ℕ
matched = 64

-- with DRAK
abbrev pub no_acknowledge : ℕ
no_acknowledge = 65

-- an abort waits
abbrev pub abort : ℕ
abort = 66

-- a rearbitration waits
abbrev pub rear : ℕ
rear = 67

-- the stage of the service
abbrev pub stage : ℕ
stage = 68

-- a reply is under way
abbrev pub going : ℕ
going = 69

-- the state of the diagnosis
abbrev pub condition : ℕ
condition = 70

-- whose turn it is in major error
abbrev pub alternate : ℕ
alternate = 71

-- Sc
abbrev pub sc : ℕ
sc = 72

-- a slot of the period had a finding
abbrev pub failure : ℕ
failure = 73

-- the frame under way
abbrev pub heard : ℕ
heard = 74

-- the frame to be sent
abbrev pub own : ℕ
own = 108

-- the reply
abbrev pub reply : ℕ
reply = 142
