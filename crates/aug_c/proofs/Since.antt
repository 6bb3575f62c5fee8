-- What changed since a list, written a page after the other.
use Rattle.std.proofs.Common.{◌≡◌, ◌⊎◌, ℕ, ◌+◌, ◌-◌, ◌<◌, ◌≤◌, min, List, ◌++◌, length, take, drop, map, get_or, pos, sym, ap, ◌∙◌, inl, inr, arith}
use Rattle.std.specs.Prelude.{ℤ}
use Rattle.std.proofs.lemmas.List.{drop-drop, length-drop, length-map, length-take, get_or-take, take_all}
use Rattle.aug_model.specs.Differences.{changes_from}
use Rattle.aug_model.specs.Keys.{SetFacts}
use Rattle.aug_model.specs.declared.difference.Difference.{Difference}
use Rattle.aug_query.proofs.Changing.{changes_behind}
use Rattle.aug_live.specs.LiveHandles.{LookFacts, IsAsked, set_of_look}
use Rattle.aug_c.specs.ArrayCalls.{ListsMembers}
use Rattle.aug_c.specs.ChangeCalls.{ListsPage, change_of}
use Rattle.aug_c.specs.UserCalls.{span_of}
use Rattle.aug_c.specs.declared.changes.WeightChange.{WeightChange}
use Rattle.aug_c.proofs.Listing.{Wrote, as_many, parts_are, wrote_all, wrote_more, wrote_none}
use Rattle.aug_c.proofs.Reading.{asked_on}

-- a whole page is written from the first place on
pub page_lists : (page before out : List WeightChange) (n : ℕ) → n ≡ length page → out ≡ take 0 before ++ (take (length before - 0) page ++ drop (0 + n) before) → ListsMembers page before out (min (length before) (length page))
page_lists page before out n long written = wrote_all page before out (0 + n) (omega (arith, long))
    (wrote_more page before before out page 0 n (omega arith) (sym (take_all n page (omega (arith, long)))) (sym long) (wrote_none page before) written) (inr (omega (arith, long)))

module _ (earlier : SetFacts) (first : LookFacts) (from : ℕ) (before : List WeightChange) where
  abbrev pub all_since : List Difference
  all_since = changes_from earlier (set_of_look first) from

  -- so many changes were written
  pub record SinceWritten (listed : ℕ) (now : LookFacts) (out : List WeightChange) : Type 0 where
    pub few : listed ≤ length (changes_from earlier (set_of_look first) from)
    pub wrote : Wrote (map change_of (changes_from earlier (set_of_look first) from)) before out listed
    pub most : ℕ
    pub asked : IsAsked span_of most first now

  -- a page of those that are left
  module _ (listed next most : ℕ) (now after : LookFacts) (out : List WeightChange) (items : List Difference) (w : SinceWritten listed now out) (rest : changes_from earlier (set_of_look first) next ≡ drop listed (changes_from earlier (set_of_look first) from))
      (is : items ≡ take 32 (changes_from earlier (set_of_look now) next)) where
    page_is : items ≡ take 32 (drop listed all_since)
    page_is = is ∙ ap (λ (s : SetFacts). take 32 (changes_from earlier s next)) w.asked.same_set ∙ ap (take 32) rest

    page_long : length items ≡ min 32 (length all_since - listed)
    page_long = ap length page_is ∙ length-take 32 (drop listed all_since) ∙ ap (min 32) (length-drop listed all_since)

    pub page_since : (out' : List WeightChange) → IsAsked span_of most now after → out' ≡ take listed out ++ (take (length out - listed) (map change_of items) ++ drop (listed + length items) out) → SinceWritten (listed + length items) after out'
    page_since out' asked written = let many = w.few in record {
      few = omega (arith, page_long, many);
      wrote = wrote_more (map change_of all_since) before out out' (map change_of items) listed (length items) (omega (arith, many, length-map all_since change_of)) (parts_are change_of listed all_since items (as_many (drop listed all_since) items page_is)) (length-map items change_of) w.wrote written;
      most = w.most + most;
      asked = asked_on span_of w.most most first now after w.asked asked;
    }

    -- the next page has those behind it, if it is full
    pub more_since : (none : Difference) → length items ≡ 32 → changes_from earlier (set_of_look first) ((get_or items 31 none).key + 1) ≡ drop (listed + length items) all_since
    more_since none full =
        let some = changes_from earlier (set_of_look first) next in
        let mine : items ≡ take 32 some = page_is ∙ ap (take 32) (sym rest) in
        let last : get_or items 31 none ≡ get_or some 31 none = ap (λ (xs : List Difference). get_or xs 31 none) mine ∙ get_or-take 32 some 31 none (omega arith) in
        let within : 31 < length some = omega (arith, full, ap length mine, length-take 32 some) in
        ap (λ (d : Difference). changes_from earlier (set_of_look first) (d.key + 1)) last ∙ changes_behind earlier (set_of_look first) next 31 none within
        ∙ ap (drop 32) rest ∙ drop-drop 32 listed all_since ∙ ap (λ (m : ℕ). drop (listed + m) all_since) (sym full)

    -- and after one that is not full, all are written
    pub whole_since : length items < 32 → listed + length items ≡ length all_since
    whole_since few = let many = w.few in omega (arith, page_long, few, many)

  -- what the call has done then
  pub listed_since : (listed : ℕ) (now : LookFacts) (out : List WeightChange) (code : ℤ) → SinceWritten listed now out → (length before ≤ listed) ⊎ (listed ≡ length (changes_from earlier (set_of_look first) from)) → code ≡ pos (min listed (length before))
      → ListsPage (map change_of (changes_from earlier (set_of_look first) from)) before out first now code
  listed_since listed now out code w end is =
      let long = length-map all_since change_of in let many = w.few in
      let count : min listed (length before) ≡ min (length before) (length (map change_of all_since)) = elim end [ inl full ↦ omega (arith, full, many, long) | inr whole ↦ omega (arith, whole, long) ] in
      record {
        count = min (length before) (length (map change_of all_since));
        says = is ∙ ap pos count;
        lists = wrote_all (map change_of all_since) before out listed (omega (arith, many, long)) w.wrote (elim end [ inl full ↦ inl full | inr whole ↦ inr (whole ∙ sym long) ]);
        most = w.most;
        asked = w.asked;
      }
