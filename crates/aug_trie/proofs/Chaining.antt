-- Parts of chains of rounds.
use Rattle.std.proofs.Common.{◌≡◌, ◌⊎◌, inl, inr, List, [], ◌∷◌, ◌++◌, sym, refl, ◌∙◌, subst, ⊎_elim}
use Rattle.aug_core.proofs.PrefixLemmas.{prefix_refl, prefix_trans, either_prefix}
use Rattle.aug_trie.specs.Chains.{Chapter, Chain, Continues, BeginsWith, chapters, IsPart}

pub continues_self : (x : Chapter) → Continues x x
continues_self x = record { members = refl; goes_on = prefix_refl x.history }

continues_on : (x y z : Chapter) → Continues x y → Continues y z → Continues x z
continues_on x y z a b = record { members = b.members ∙ a.members; goes_on = prefix_trans x.history y.history z.history a.goes_on b.goes_on }

-- of two beginnings of one round the one is a beginning of the other
one_round : (x y z : Chapter) → Continues x z → Continues y z → Continues x y ⊎ Continues y x
one_round x y z a b = let same : y.members ≡ x.members = sym b.members ∙ a.members in ⊎_elim
    (λ p. inl (record { members = same; goes_on = p }))
    (λ p. inr (record { members = sym same; goes_on = p })) (either_prefix x.history y.history z.history a.goes_on b.goes_on)

-- rounds that begin alike
pub begins_alike : (past : List Chapter) (x y : Chapter) (more : List Chapter) → Continues x y → BeginsWith past x (past ++ y ∷ more)
begins_alike [] x y more c = c
begins_alike (p ∷ ps) x y more c = (refl, begins_alike ps x y more c)

begins_none : (past : List Chapter) (now : Chapter) → BeginsWith past now [] → ⊥
begins_none past now none = none

begins_on : (ps qs zs : List Chapter) (x y : Chapter) → BeginsWith ps x (qs ++ y ∷ []) → BeginsWith qs y zs → BeginsWith ps x zs
begins_on ps qs [] x y a b = b
begins_on [] [] (z ∷ zs) x y a b = continues_on x y z a b
begins_on [] (q ∷ qs) (z ∷ zs) x y a b = subst (Continues x) (sym b.0) a
begins_on (p ∷ ps) [] (z ∷ zs) x y a b = absurd (begins_none ps x a.1)
begins_on (p ∷ ps) (q ∷ qs) (z ∷ zs) x y a b = (b.0 ∙ a.0, begins_on ps qs zs x y a.1 b.1)

begins_either : (ps qs zs : List Chapter) (x y : Chapter) → BeginsWith ps x zs → BeginsWith qs y zs → BeginsWith ps x (qs ++ y ∷ []) ⊎ BeginsWith qs y (ps ++ x ∷ [])
begins_either ps qs [] x y a b = absurd a
begins_either [] [] (z ∷ zs) x y a b = one_round x y z a b
begins_either [] (q ∷ qs) (z ∷ zs) x y a b = inl (subst (Continues x) b.0 a)
begins_either (p ∷ ps) [] (z ∷ zs) x y a b = inr (subst (Continues y) a.0 b)
begins_either (p ∷ ps) (q ∷ qs) (z ∷ zs) x y a b = let same : q ≡ p = sym b.0 ∙ a.0 in ⊎_elim (λ t. inl (same, t)) (λ t. inr (sym same, t)) (begins_either ps qs zs x y a.1 b.1)

pub part_refl : (c : Chain) → IsPart c c
part_refl c = begins_alike c.past c.now c.now [] (continues_self c.now)

pub part_trans : (a b c : Chain) → IsPart a b → IsPart b c → IsPart a c
part_trans a b c p q = begins_on a.past b.past (chapters c) a.now b.now p q

-- of two parts of one chain the one is a part of the other
pub either_part : (a b c : Chain) → IsPart a c → IsPart b c → IsPart a b ⊎ IsPart b a
either_part a b c p q = begins_either a.past b.past (chapters c) a.now b.now p q

-- rounds that begin so still do where more come after them
pub begins_longer : (past : List Chapter) (now : Chapter) (all more : List Chapter) → BeginsWith past now all → BeginsWith past now (all ++ more)
begins_longer past now [] more b = absurd b
begins_longer [] now (x ∷ xs) more b = b
begins_longer (p ∷ ps) now (x ∷ xs) more b = (b.0, begins_longer ps now xs more b.1)
