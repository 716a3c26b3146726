mod Yields
