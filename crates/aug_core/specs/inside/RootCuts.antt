-- The cut that an entry of the root shows.
use Rattle.std.specs.Prelude.{ℕ}
use Rattle.aug_core.specs.Places.{Shape}
use Rattle.aug_core.specs.Addresses.{root_place}
use Rattle.aug_core.specs.Book.{Book}
use Rattle.aug_core.specs.Cuts.{Cut}
use Rattle.aug_core.specs.inside.EntryCuts.{cut_under}

-- the cut of an entry of the root
abbrev pub root_cut : Shape → Book → ℕ → Cut
root_cut s book i = cut_under s book s.bits (root_place s) i
