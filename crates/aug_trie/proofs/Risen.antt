-- How the cuts of a history rise, and where nothing changed.
use Rattle.std.proofs.Common.{◌≡◌, ℕ, zero, suc, ◌+◌, ◌-◌, ◌<◌, ◌≤◌, List, [], ◌∷◌, length, get_or, refl, sym, ap, ◌∙◌, inl, inr, arith}
use Rattle.std.proofs.lemmas.Bool.{cases_lt, lt-leb, lt-ltb}
use Rattle.std.proofs.lemmas.List.Prefix.{front_reads}
use Rattle.aug_core.specs.Cuts.{Cut, IsAtMost, opening_cut, serial_of, shown_of}
use Rattle.aug_core.specs.Prefixes.{IsPrefix}
use Rattle.aug_core.specs.declared.view.Change.{Change}
use Rattle.aug_core.proofs.PrefixLemmas.{prefix_long, prefix_refl, prefix_trans}
use Rattle.aug_trie.specs.History.{last_cut, IsHistory}
use Rattle.aug_trie.specs.Tallies.{Tallies, times}
use Rattle.aug_trie.proofs.CutLemmas.{same_cut, serial_rises}
use Rattle.aug_trie.proofs.TallyLemmas.{once_between}

pub at_most-refl : (c : Cut) → IsAtMost c c
at_most-refl c = record { same_keys = refl; no_greater = λ key. inr refl }

pub at_most-trans : (c d e : Cut) → IsAtMost c d → IsAtMost d e → IsAtMost c e
at_most-trans c d e cd de = record {
  same_keys = cd.same_keys ∙ de.same_keys;
  no_greater = λ key. elim (cd.no_greater key) [
    | inl less ↦ inl (omega (arith, less, serial_rises d e key de))
    | inr same ↦ elim (de.no_greater key) [
      | inl less ↦ inl (omega (arith, less, ap (λ (z : ℕ × ℕ). z.0) same))
      | inr stays ↦ inr (same ∙ stays)
    ]
  ];
}

module _ (bits : ℕ) (members : List (ℕ × ℕ)) (history : List Cut) (is_history : IsHistory bits members history) where
  rises_by : (i d : ℕ) → i + d < length history → IsAtMost (get_or history i []) (get_or history (i + d) [])
  rises_by i zero below = let e : i + zero ≡ i = omega arith in rw e (at_most-refl (get_or history i []))
  rises_by i (suc d) below =
      let e : i + suc d ≡ i + d + 1 = omega arith in
      rw e (at_most-trans (get_or history i []) (get_or history (i + d) []) (get_or history (i + d + 1) []) (rises_by i d (omega arith)) (is_history.rises (i + d) (omega arith)))

  pub rises_to : (i j : ℕ) → i ≤ j → j < length history → IsAtMost (get_or history i []) (get_or history j [])
  rises_to i j le below =
      let e : i + (j - i) ≡ j = omega arith in
      let r = rises_by i (j - i) (omega arith) in
      rw e at r

  last_of : (front : List Cut) → 0 < length front → IsPrefix front history → last_cut front ≡ get_or history (length front - 1) []
  last_of front some b = sym (front_reads [] history front b.0 b.1 (length front - 1) (omega arith))

  -- of two beginnings the longer shows at least what the shorter shows
  pub last-rises : (short long : List Cut) → 0 < length short → IsPrefix short long → IsPrefix long history → IsAtMost (last_cut short) (last_cut long)
  last-rises short long some b rest =
      let fits = prefix_long short long b in
      let within = prefix_long long history rest in
      let le = rises_to (length short - 1) (length long - 1) (omega arith) (omega arith) in
      rw (last_of short some (prefix_trans short long history b rest), last_of long (omega arith) rest) le

  pub last-at_most_final : (front : List Cut) → 0 < length front → IsPrefix front history → IsAtMost (last_cut front) (last_cut history)
  last-at_most_final front some b = last-rises front history some b (prefix_refl history)

  pub opening-at_most : (front : List Cut) → IsPrefix (opening_cut bits members ∷ []) front → IsPrefix front history → IsAtMost (opening_cut bits members) (last_cut front)
  opening-at_most front opens b = last-rises (opening_cut bits members ∷ []) front (omega arith) opens b

  pub opens-some : (front : List Cut) → IsPrefix (opening_cut bits members ∷ []) front → 0 < length front
  opens-some front opens = prefix_long (opening_cut bits members ∷ []) front opens

-- where a key's serial is the same, so is all that is shown of it
pub same_shown : (c d : Cut) (k : ℕ) → IsAtMost c d → serial_of d k ≤ serial_of c k → shown_of c k ≡ shown_of d k
same_shown c d k le no_more = elim (le.no_greater k) [
  | inl less ↦ absurd (omega (arith, less, no_more))
  | inr same ↦ same
]

-- where nothing happened, all keys are shown as they were
pub tally_nothing : (c d : Cut) → IsAtMost c d → Tallies c d [] → (k : ℕ) → shown_of c k ≡ shown_of d k
tally_nothing c d le tallies k =
    elim (cases_lt (serial_of c k) (serial_of d k)) [
      | inl lt ↦ absurd (omega (arith, once_between c d [] tallies k (serial_of d k) lt (omega arith)))
      | inr ge ↦ same_shown c d k le ge
    ]

-- and the cuts are the same
pub unchanged : (c d : Cut) → IsAtMost c d → Tallies c d [] → d ≡ c
unchanged c d le tallies = sym (same_cut c d le.same_keys (tally_nothing c d le tallies))

-- where the changes up to one cut are all those up to a later one, the two are the same
pub same_end : (o c d : Cut) (changes : List Change) → IsAtMost o c → IsAtMost c d → Tallies o c changes → Tallies o d changes → d ≡ c
same_end o c d changes up le before after = sym (same_cut c d le.same_keys (λ k. elim (cases_lt (serial_of c k) (serial_of d k)) [
  | inl lt ↦
      let low = serial_rises o c k up in let once = once_between o d changes after k (serial_of d k) (omega arith) (omega arith) in
      let none : times k (serial_of d k) changes ≡ 0 = before k (serial_of d k) ∙ rw (lt-ltb (serial_of o k) (serial_of d k) (omega arith), lt-leb (serial_of d k) (serial_of c k) lt) in absurd (omega arith)
  | inr ge ↦ same_shown c d k le ge
]))
