-- What the words of a table at rest are.
use Rattle.std.proofs.Common.{true, ◌≡◌, ℕ, zero, suc, ◌+◌, arith, List, [], ◌∷◌, get_or, refl, sym, ap, ◌∙◌, subst}
use mathlib.Core.Option.{some, some-injective, some-ne-none}
use lib.ListN.{get_elem?}
use Rattle.atomic_table.specs.Table.{Final, Seen}
use Rattle.aug_core.specs.Eras.{IsAtWork, table_part, Ruled}
use Rattle.aug_core.specs.Renewals.{EndWith}
use Rattle.aug_core.specs.Effects.{opening_of}
use Rattle.aug_core.proofs.Renewals.{met_rule}
use Rattle.aug_core.specs.Addresses.{IsInner}
use Rattle.aug_core.specs.Book.{At}
use Rattle.aug_core.specs.Opening.{Opening, opening_entry}
use Rattle.aug_core.specs.Rule.{Kept}
use Rattle.aug_core.specs.Records.{HasWords}
use Rattle.aug_core.specs.declared.view.Entry.{Entry}
use Rattle.aug_core.specs.declared.view.SeatView.{SeatView}
use Rattle.aug_core.specs.Places.{Shape, record_start, word_count}
use Rattle.aug_core.proofs.Moves.{St}
use Rattle.aug_core.proofs.Openings.{inner_history}
use Rattle.aug_words.specs.Rests.{ShowAll}
use Rattle.aug_core.proofs.PrefixLemmas.{entry_stays}

module _ (face : ℕ → ℕ → List (ℕ × ℕ) → List ℕ) (o : Opening) where
  module _ (s : St) (r : Kept face o s) where
    opening_at : (q : ℕ) → IsInner o.shape q → At r.book q 0 (opening_entry face o q)
    opening_at q inner = entry_stays r.tree.opened q 0 (opening_entry face o q)
        (subst (λ (z : List Entry). get_elem? z 0 ≡ some (opening_entry face o q)) (sym (inner_history face o q inner)) refl)

    -- where no record is used again, what was seen stands
    written : o.shape.reservations ≡ 0 → (q i : ℕ) (e : Entry) → IsInner o.shape q → At r.book q i e → HasWords o.shape s.words e.number e.words
    written off q i e inner p = let zero = r.records.none_gone off q in (r.records.there q i e inner p (omega arith)).words_are

    pub shows_all : o.shape.reservations ≡ 0 → (id : ℕ) (v : SeatView) → get_elem? s.views id ≡ some v → ShowAll face o v s.words
    shows_all off id v at = let kn = r.each_view id v at in record {
      opening_records = λ q field inner small. written off q 0 (opening_entry face o q) inner (opening_at q inner) field small;
      shared_records = λ level field low small. r.tree.shared off level low field small;
      idle_records = λ number field is small. r.tree.idle off number field is small;
      seen_records = λ q i field e inner p small. written off q i e inner (entry_stays kn.saw q i e p) field small;
      lanes = λ a h p. (kn.holds a h p).state;
      records = λ number field x owns small. ap (λ (z : ℕ). get_or s.words (record_start o.shape z + field) 0) (sym owns.numbered) ∙ ((kn.holds owns.index owns.lane owns.at).owns x owns.listed).exact field small;
    }

  module _ (v : SeatView) (words : List ℕ) (end : EndWith face o v words) where
    pub ends_showing : o.shape.reservations ≡ 0 → ShowAll face o v words
    ends_showing off = subst (λ (z : List ℕ). ShowAll face o v z) end.words_are (shows_all end.state end.kept off end.seat v end.view_is)

-- a table that a lead closes met the rule of the opening that the lead knows
pub ends_with : (face : ℕ → ℕ → List (ℕ × ℕ) → List ℕ) (made : Shape) (id : ℕ) (v : SeatView) (words : List ℕ) (slots : List (Unit {0})) → Final (Seen (Ruled face made) id v) words slots → v.live ≡ true → IsAtWork v → EndWith face (opening_of v) v (table_part v.base (word_count v.shape) words)
ends_with face made id v words slots end live work = let w : Ruled face made end.0 = end.1.0 in
    subst (λ (z : List ℕ). EndWith face (opening_of v) v (table_part v.base (word_count v.shape) z)) end.2 (met_rule face made end.0 w id v end.1.1 live (w.present id v end.1.1 work) work)

-- a word that was found is the word there
pub found_at : (words : List ℕ) (i x : ℕ) → get_elem? words i ≡ some x → x ≡ get_or words i 0
found_at [] i x e = absurd (some-ne-none x (sym e))
found_at (w ∷ ws) zero x e = sym (some-injective w x e)
found_at (w ∷ ws) (suc i) x e = found_at ws i x e
