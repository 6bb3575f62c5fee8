-- What a handle and a look hold.
use Rattle.std.proofs.Common.{◌≡◌, ◌∙◌, ℕ, List, refl, sym, ap}
use Rattle.std.specs.Prelude.{Option, Some, unwrap_or}
use mathlib.Core.Option.{some, some-injective}
use lib.ListN.{get_elem?}
use Rattle.atomic_table.specs.Seated.{TableId}
use Rattle.aug_trie.specs.Round.{TableFacts, table_of}
use Rattle.aug_live.specs.inside.LaneKnowledge.{EndFacts, IsSameEnd}
use Rattle.aug_live.specs.inside.Looks.{HoldsHandle}

-- the end that a handle holds, and its lane
pub mine_of : (end : EndFacts) (inside : Option EndFacts) (table : TableFacts) (bits number place : ℕ) (lanes : List TableId) (h : HoldsHandle inside table bits place number lanes) → inside ≡ Some end → end ≡ h.mine
mine_of end inside table bits number place lanes h there = ap (λ (z : Option EndFacts). unwrap_or z end) (sym there ∙ h.there)

pub lock_of : (end : EndFacts) (inside : Option EndFacts) (table : TableFacts) (bits number place : ℕ) (lanes : List TableId) (id : TableId) → HoldsHandle inside table bits place number lanes → inside ≡ Some end → get_elem? lanes place ≡ some id → end.lock ≡ id
lock_of end inside table bits number place lanes id h there at = ap (λ (e : EndFacts). e.lock) (mine_of end inside table bits number place lanes h there) ∙ some-injective h.mine.lock id (sym h.id ∙ at)

-- a handle that ran something with its end
pub holds_same : (end result : EndFacts) (inside : Option EndFacts) (table : TableFacts) (bits place number : ℕ) (lanes : List TableId) → HoldsHandle inside table bits place number lanes → inside ≡ Some end → IsSameEnd end result → HoldsHandle (Some result) table bits place number lanes
holds_same end result inside table bits place number lanes h there same = let mine = mine_of end inside table bits number place lanes h there in record {
  mine = result;
  there = refl;
  whose = same.whose ∙ ap (λ (e : EndFacts). e.known.whose) mine ∙ h.whose;
  id = h.id ∙ ap some (sym (same.lock ∙ ap (λ (e : EndFacts). e.lock) mine));
  number_is = same.number ∙ ap (λ (e : EndFacts). e.known.number) mine ∙ h.number_is;
  some_era = same.some_era;
  together = same.together ∙ ap (λ (e : EndFacts). table_of e.known.at.half.round) mine ∙ h.together;
  bits_are = same.bits ∙ ap (λ (e : EndFacts). e.known.at.half.round.bits) mine ∙ h.bits_are;
  few_bits = h.few_bits;
}
