-- The ranks of the code as the numbers in the definitions.
use Rattle.std.specs.Prelude.{ℕ}
use Rattle.sv_mapping.specs.declared.rank.Rank.{Rank}
use Rattle.sv_mapping.specs.declared.rank.Rank.TheVariants.{Default, Extension, Prefix, Exact}

abbrev pub rank_number : Rank → ℕ × ℕ
rank_number Default = (0, 0)
rank_number Extension = (1, 0)
rank_number (Prefix length) = (2, length)
rank_number Exact = (3, 0)
