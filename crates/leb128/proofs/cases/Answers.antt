use Rattle.std.proofs.Common.{refl}
use Rattle.leb128.specs.Leb128.{decode, fault_of, value_of, looked_of, rest_of, refusal_number, uleb128, groups, groups_of, before}
use Rattle.leb128.specs.Cases.{Cases}
use Rattle.leb128.proofs.cases.Goals as goal

values : Cases
unfolding decode fault_of value_of looked_of rest_of refusal_number uleb128 groups groups_of before
values =
    record {
      written = refl;
      largest = (refl, refl, refl, refl);
      two_groups = (refl, refl, refl, refl);
      one_group = (refl, refl, refl, refl);
      above = (refl, refl, refl, refl);
      third_more = (refl, refl, refl, refl);
      second_zero = (refl, refl, refl, refl);
      third_zero = (refl, refl, refl, refl);
      third_missing = (refl, refl, refl, refl);
      second_missing = (refl, refl, refl, refl);
      empty = (refl, refl, refl, refl);
    }

pub returns : goal.returns
returns c = values
