-- The laws of a number by how many groups it has, for the proofs of `number_length` and `write_number`.
--   length_cases    how many bytes it has
--   write_cases     what the bytes are, and where they are stored
-- Assumes nothing.
use lib.ListN.{length-set}
use Rattle.theory.proofs.Files.NumberLaws.{bytes_one, number_two, number_three}
use Rattle.theory.proofs.Files.NumberLaws.{length_one, length_two, length_three, length_bounds}

-- How many bytes a number has.
pub ruleset length_cases = (length_one, length_two, length_three)

-- What they are, and where they are stored.
pub ruleset write_cases =
    (bytes_one, number_two, number_three, length_bounds, length_one, length_two, length_three, length-set)
