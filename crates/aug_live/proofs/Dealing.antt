-- The roller's end of a lane as passes come and go.
use Rattle.std.proofs.Common.{◌≡◌, ◌≢◌, ◌+◌, ◌<◌, ℕ, List, [], ◌∷◌, ◌++◌, true, false, refl, sym, ap, ◌∙◌, subst, ⊎_elim, length, length-append, append_assoc, arith}
use Rattle.std.specs.Prelude.{Option, Some, IfSome, drop, not, map, flat_map, reverse}
use Rattle.std.proofs.lemmas.List.{append-nil, map-append, reverse-append, reverse-reverse}
use Rattle.std.proofs.lemmas.List.Concat.{flat_map-append}
use Rattle.std.proofs.lemmas.List.Elements.{filter-append}
use Rattle.atomic_table.specs.Seated.{TableId}
use Rattle.aug_core.specs.Cuts.{Cut}
use Rattle.aug_core.specs.Prefixes.{IsPrefix}
use Rattle.aug_core.specs.declared.view.Change.{Change}
use Rattle.aug_trie.specs.Chains.{Chapter}
use Rattle.aug_trie.specs.Pass.{PassFacts}
use Rattle.aug_trie.specs.Round.{RoundFacts}
use Rattle.aug_live.specs.Ledgers.{Made, dated}
use Rattle.aug_live.specs.LiveHandles.{HandleFacts}
use Rattle.aug_live.specs.LiveTries.{Done, LaneGoesOn, lost_of, made_through}
use Rattle.aug_live.specs.inside.Desks.{handles_of, missing_of, out_of}
use Rattle.aug_live.specs.inside.LaneKnowledge.{EndFacts, IsWhole, KnownFacts, LaneFacts, Learnt, Rolls, dealt, done_if, given_out, lane_by, left, made_at, renumbered, rolls, rounds_at, stands}
use Rattle.aug_live.specs.inside.Rolls.{GetsHandle, IsBackIn, IsOf, IsPort, accepted_by, given_all, kept_of}
use Rattle.aug_live.specs.declared.known.Whose.{Whose}
use Rattle.aug_live.specs.declared.known.Whose.TheVariants.{Alone, Roller, Free, Idle, Handle, Gone}
use Rattle.aug_live.proofs.Tied.{rolls_on}

pub port_rolls : (x : Whose) → IsPort x → rolls x ≡ true
port_rolls x is = ⊎_elim (λ e. ap rolls e) (λ e. ap rolls e) is

-- a lane whose pass went back to its crew
pub back_in : (rounds : RoundFacts × List Chapter) (era : ℕ) (history : List Cut) (lock : TableId) (v : KnownFacts) (lane rest : LaneFacts) → rest ≡ record lane { works = false } → Rolls v v.before lane → IsPort v.whose
    → rounds_at v.at.half ≡ rounds → v.at.era ≡ era → IsPrefix lane.at.half.knows.history history → IsBackIn rounds era history (record { lock = lock; known = left v rest })
back_in rounds era history lock v lane rest is r port same_rounds same_era known = let at : rest.at ≡ lane.at = ap (λ (z : LaneFacts). z.at) is in record {
  whose = port;
  works = ap (λ (z : LaneFacts). z.works) is;
  era_is = ap (λ (z : HandleFacts). z.era) at ∙ r.era ∙ same_era;
  round_is = ap (λ (z : HandleFacts). rounds_at z.half) at ∙ r.round ∙ same_rounds;
  known = subst (λ (z : HandleFacts). IsPrefix z.half.knows.history history) (sym at) known;
  whole = record { own = r.whole.own; whole = ap (made_at v.before) at ∙ r.whole.whole; none_out = r.whole.none_out };
}

-- the lane of an end that the roller took, as the end knows it
pub knows_of : (rounds : RoundFacts × List Chapter) (e : EndFacts) (v : KnownFacts) (lane : LaneFacts) → IsOf rounds e.known.at.era e → 0 < e.known.at.era → v ≡ e.known → Learnt v lane → (lane.at.era ≡ e.known.at.era) × (rounds_at lane.at.half ≡ rounds)
knows_of rounds e v lane of some is learnt = let knows = rolls_on e.known lane (subst (λ (z : KnownFacts). Learnt z lane) is learnt) (port_rolls e.known.whose of.whose) some in (knows.era, knows.round ∙ of.round_is)

-- the lane of an end that the roller took, whose pass knew `v` then: it knows `w`, as it put the lane back with the next pass of its round, the last one being back
module _ (rounds : RoundFacts × List Chapter) (e : EndFacts) (lock : TableId) (u v w : KnownFacts) (taken : Option LaneFacts) (lane rest new : LaneFacts) (work : PassFacts)
    (of : IsOf rounds e.known.at.era e) (some : 0 < e.known.at.era) (is : record { lock = lock; known = u } ≡ e) (view : v ≡ u) (learnt : Learnt u lane) (there : taken ≡ Some lane) (then : IfSome taken (λ t. w ≡ dealt v t new))
    (rest_is : rest ≡ record lane { works = false }) (put : new ≡ record rest { works = true; at = record rest.at { half = work } }) where
  own_is : u ≡ e.known
  own_is = ap (λ (z : EndFacts). z.known) is

  lane_is : (lane.at.era ≡ e.known.at.era) × (rounds_at lane.at.half ≡ rounds)
  lane_is = knows_of rounds e u lane of some own_is learnt

-- and as it put the lane back for another handle, with the same pass, which learned something
module _ (rounds : RoundFacts × List Chapter) (e : EndFacts) (u v w : KnownFacts) (taken : Option LaneFacts) (lane rest new : LaneFacts) (era number : ℕ) (work pass after half : PassFacts)
    (of : IsOf rounds e.known.at.era e) (some : 0 < e.known.at.era) (was : u ≡ e.known) (learnt : Learnt u lane) (there : taken ≡ Some lane) (then : IfSome taken (λ _. w ≡ renumbered v new))
    (rest_is : rest ≡ record lane { works = false }) (work_is : work ≡ lane.at.half) (pass_is : pass ≡ work) (learns : rounds_at after ≡ rounds_at pass) (half_is : half ≡ after) (dated : era ≡ rest.at.era)
    (put : new ≡ record { works = true; number = number; is_out = true; at = stands era half }) where
  known_is : (lane.at.era ≡ e.known.at.era) × (rounds_at lane.at.half ≡ rounds)
  known_is = knows_of rounds e u lane of some was learnt

  era_is : era ≡ e.known.at.era
  era_is = dated ∙ ap (λ (z : LaneFacts). z.at.era) rest_is ∙ known_is.0

  round_is : rounds_at half ≡ rounds
  round_is = ap rounds_at half_is ∙ learns ∙ ap rounds_at (pass_is ∙ work_is) ∙ known_is.1

-- the same changes were made through a lane whose pass learned something
pub whole_on : (v : KnownFacts) (a b : HandleFacts) → b.era ≡ a.era → b.half.knows.accepted ≡ a.half.knows.accepted → IsWhole v a → IsWhole v b
whole_on v a b era same w = record { own = w.own; whole = (λ i. v.before ++ dated (era i) (same i)) ∙ w.whole; none_out = w.none_out }

done_other : (x : Whose) (done : List Done) (own : List Made) → x ≢ Roller → done_if x done own ≡ done
done_other Roller done own other = absurd (other refl)
done_other Alone done own other = refl
done_other Free done own other = refl
done_other Idle done own other = refl
done_other Handle done own other = refl
done_other Gone done own other = refl

-- a lane that another handle gets
pub gets : (lock : TableId) (number : ℕ) (v : KnownFacts) (new : LaneFacts) → new.number ≡ number → GetsHandle number (record { lock = lock; known = v }) (record { lock = lock; known = given_out (renumbered v new) })
gets lock number v new is = let own = drop (length (made_through v.done)) (made_at v.before new.at) in record {
  own = own;
  lock = refl;
  whose = refl;
  number_is = is;
  before = refl;
  done = λ other. done_other v.whose v.done own other;
  lost = λ out. ap (λ (z : Whose). done_if z v.done own) out;
}

-- what the roller's ends keep, as one pass more is back; and as one lane more has a new one
pub took_one : (pop ports back back' : List EndFacts) (port r : EndFacts) (all : List EndFacts) → ports ≡ pop ++ port ∷ [] → back' ≡ back ++ r ∷ [] → kept_of r ≡ kept_of port → map kept_of ports ++ map kept_of (reverse back) ≡ all
    → map kept_of pop ++ map kept_of (reverse back') ≡ all
took_one pop ports back back' port r all cut grown same was =
    ap (λ (z : List EndFacts). map kept_of pop ++ map kept_of z) (ap reverse grown ∙ reverse-append back (r ∷ [])) ∙ ap (λ (z : EndFacts). map kept_of pop ++ (z ∷ map kept_of (reverse back))) same
    ∙ sym (append_assoc (map kept_of pop) (kept_of port ∷ []) (map kept_of (reverse back))) ∙ ap (λ (z : List EndFacts). z ++ map kept_of (reverse back)) (sym (ap (map kept_of) cut ∙ map-append kept_of pop (port ∷ []))) ∙ was

-- the same of the ends themselves, as one lane more is taken
pub moved_one : (pop ports held held' : List EndFacts) (port one : EndFacts) (all : List EndFacts) → ports ≡ pop ++ port ∷ [] → held' ≡ held ++ one ∷ [] → one ≡ port → ports ++ reverse held ≡ all → pop ++ reverse held' ≡ all
moved_one pop ports held held' port one all cut grown same was =
    ap (λ (z : List EndFacts). pop ++ z) (ap reverse grown ∙ reverse-append held (one ∷ [])) ∙ ap (λ (z : EndFacts). pop ++ (z ∷ reverse held)) same
    ∙ sym (append_assoc pop (port ∷ []) (reverse held)) ∙ ap (λ (z : List EndFacts). z ++ reverse held) (sym cut) ∙ was

pub map_reverse : {A B : Type 0} (f : A → B) (xs : List A) → map f (reverse xs) ≡ reverse (map f xs)
map_reverse f [] = refl
map_reverse f (x ∷ xs) = ap (map f) (reverse-append (x ∷ []) xs) ∙ map-append f (reverse xs) (x ∷ []) ∙ ap (λ z. z ++ f x ∷ []) (map_reverse f xs) ∙ sym (reverse-append (f x ∷ []) (map f xs))

pub kept_in_order : (xs ys : List EndFacts) → map kept_of (reverse xs) ≡ map kept_of (reverse ys) → map kept_of xs ≡ map kept_of ys
kept_in_order xs ys same = sym (reverse-reverse (map kept_of xs)) ∙ ap reverse (sym (map_reverse kept_of xs) ∙ same ∙ map_reverse kept_of ys) ∙ reverse-reverse (map kept_of ys)

pub dealt_one : (ports ports' pop back : List EndFacts) (port r : EndFacts) (all : List EndFacts) → back ≡ pop ++ port ∷ [] → ports' ≡ ports ++ r ∷ [] → kept_of r ≡ given_all port → map kept_of ports ++ map given_all (reverse back) ≡ all
    → map kept_of ports' ++ map given_all (reverse pop) ≡ all
dealt_one ports ports' pop back port r all cut grown same was =
    ap (λ (z : List EndFacts). z ++ map given_all (reverse pop)) (ap (map kept_of) grown ∙ map-append kept_of ports (r ∷ [])) ∙ append_assoc (map kept_of ports) (kept_of r ∷ []) (map given_all (reverse pop))
    ∙ ap (λ (z : EndFacts). map kept_of ports ++ (z ∷ map given_all (reverse pop))) same ∙ ap (λ (z : List EndFacts). map kept_of ports ++ map given_all z) (sym (ap reverse cut ∙ reverse-append pop (port ∷ []))) ∙ was

-- and what their passes had accepted
pub gave_one : (first now next : List Change) (back back' : List EndFacts) (r : EndFacts) → back' ≡ back ++ r ∷ [] → next ≡ now ++ accepted_by r → now ≡ first ++ flat_map accepted_by back → next ≡ first ++ flat_map accepted_by back'
gave_one first now next back back' r grown gave was =
    gave ∙ ap (λ (z : List Change). z ++ accepted_by r) was ∙ append_assoc first (flat_map accepted_by back) (accepted_by r)
    ∙ ap (λ (z : List Change). first ++ z) (sym (ap (flat_map accepted_by) grown ∙ flat_map-append accepted_by back (r ∷ []) ∙ ap (λ (z : List Change). flat_map accepted_by back ++ z) (append-nil (accepted_by r))))

-- a lane that another handle gets has one handle more, which is out; and more of its handles are done
pub gets_counts : (number : ℕ) (old new : EndFacts) → IsPort old.known.whose → GetsHandle number old new → (handles_of new ≡ handles_of old + 1) × (missing_of new ≡ missing_of old + 1)
gets_counts number old new port g = let out : out_of new.known.whose ≡ 1 = ap out_of g.whose in ⊎_elim
    (λ here. let was : out_of old.known.whose ≡ 1 = ap out_of here in let done = g.lost here in
    let long = ap length done ∙ length-append old.known.done ((false, g.own) ∷ []) in let lost = ap (λ (z : List Done). length (lost_of z)) done ∙ ap length (filter-append (λ (d : Done). not d.0) old.known.done ((false, g.own) ∷ [])) ∙ length-append (lost_of old.known.done) ((false, g.own) ∷ []) in
    let both : (handles_of new ≡ handles_of old + 1) × (missing_of new ≡ missing_of old + 1) = (omega arith, omega arith) in both)
    (λ idle. let was : out_of old.known.whose ≡ 0 = ap out_of idle in let done = g.done (λ e. let clash : Idle ≡ Roller = sym idle ∙ e in cc) in
    let long = ap length done in let lost = ap (λ (z : List Done). length (lost_of z)) done in
    let both : (handles_of new ≡ handles_of old + 1) × (missing_of new ≡ missing_of old + 1) = (omega arith, omega arith) in both)
    port

pub gets_lane : (number : ℕ) (old new : EndFacts) → old.known.number < number → IsPort old.known.whose → GetsHandle number old new → LaneGoesOn (lane_by old) (lane_by new)
gets_lane number old new newer port g = record {
  id = g.lock;
  number = let is = g.number_is in omega arith;
  done = ⊎_elim (λ here. ((false, g.own) ∷ [], g.lost here)) (λ idle. ([], g.done (λ e. let clash : Idle ≡ Roller = sym idle ∙ e in cc) ∙ sym (append-nil old.known.done))) port;
}

-- a lane whose handle came back has as many, one of which fewer did not
pub taken_counts : (old new : EndFacts) (made : List Made) → old.known.whose ≡ Roller → new.known.whose ≡ Idle → new.known.done ≡ old.known.done ++ (true, made) ∷ [] → (handles_of new ≡ handles_of old) × (missing_of new + 1 ≡ missing_of old)
taken_counts old new made here idle done = let was : out_of old.known.whose ≡ 1 = ap out_of here in let out : out_of new.known.whose ≡ 0 = ap out_of idle in
    let long = ap length done ∙ length-append old.known.done ((true, made) ∷ []) in let lost = ap (λ (z : List Done). length (lost_of z)) done ∙ ap length (filter-append (λ (d : Done). not d.0) old.known.done ((true, made) ∷ [])) ∙ length-append (lost_of old.known.done) [] in
    let both : (handles_of new ≡ handles_of old) × (missing_of new + 1 ≡ missing_of old) = (omega arith, omega arith) in both
