-- An update goes on by one step.

use Rattle.std.proofs.Common.{◌≡◌, ℕ, suc, ◌+◌, ◌-◌, ◌*◌, ◌/◌, ◌^◌, ◌<◌, ◌≤◌, Bool, true, false, if◌then◌else◌, List, [], ◌∷◌, ◌++◌, length, suc-mul, sym, refl, ap, ◌∙◌, subst, ⊎_elim, arith, append_assoc, length-append}
use Rattle.std.proofs.lemmas.Bool.{cases_eq, false≢true}
use Rattle.std.proofs.lemmas.List.{append-nil}
use Rattle.aug_core.specs.Places.{Shape}
use Rattle.aug_core.specs.Counts.{changes_of}
use Rattle.aug_core.specs.Kinds.{load_leaf, try_leaf}
use Rattle.aug_core.specs.Effects.{own_lane, MayChange, BeginsAtLeaf, TriesLeaf, old_word}
use Rattle.aug_core.specs.declared.view.Advance.{Advance}
use Rattle.aug_core.specs.declared.view.Change as changed
use Rattle.aug_core.specs.declared.view.SeatView.{SeatView}
use Rattle.aug_model.specs.declared.outcome.Outcome.{Outcome}
use Rattle.aug_model.specs.declared.outcome.Outcome.TheVariants.{Refused}
use Rattle.aug_words.specs.Seats.{MayAdvance, TriedLeaf}
use Rattle.aug_trie.specs.inside.RoundState.{eras_of}
use Rattle.aug_trie.specs.inside.Goes.{HasRoom, Goes}
use Rattle.aug_trie.specs.inside.Climbing.{Updated}
use Rattle.aug_trie.specs.inside.PassState.{IsPass}
use Rattle.aug_trie.specs.inside.Points.{OneStep, QuietStep}
use Rattle.aug_trie.specs.Requests.{goes_from, word_after, outcome_by, outcome_at_once}
use Rattle.aug_trie.specs.inside.Stages.{HasRisen, IsOnWay, HasBegun, IsRising, StageAt}
use Rattle.aug_trie.specs.declared.updates.request.Request.{Request}
use Rattle.aug_trie.specs.declared.turns.points.Point.TheVariants.{Node}
use Rattle.aug_trie.specs.declared.turns.ascents.Ascent.{Ascent}
use Rattle.aug_trie.specs.declared.turns.stages.Stage.{Stage}
use Rattle.aug_trie.specs.declared.turns.stages.Stage.TheVariants.{Leaf, Change, Up}
use Rattle.aug_trie.proofs.Going.{may_change, room_on, goes_after, room_within}
use Rattle.aug_trie.proofs.Updating.{goes_begun, goes_leaf, asked, advances, told, step_at_leaf, may_rise, refused_at_once, updated}
use Rattle.aug_trie.proofs.Ascending.{way_begins}
use Rattle.aug_core.specs.declared.step.StepTaken.{StepTaken}

-- the word that is to be exchanged next
abbrev pub exchanged_word : Stage → ℕ
exchanged_word Leaf = 0
exchanged_word (Change word) = word
exchanged_word (Up done a) = 0

module _ (f : ℕ → ℕ → List (ℕ × ℕ) → List ℕ) where
  -- what one update takes of the records that are left
  pub room_one : (u : SeatView) (leaves bits number left : ℕ) → IsPass f u leaves bits number left → 1 ≤ left → HasRoom u number bits × (number + bits < 2 ^ 60) × (1 ≤ bits)
  room_one u leaves bits number left p some = let e : left ≡ suc (left - 1) = omega arith in let m : left * bits ≡ (left - 1) * bits + bits = ap (λ (z : ℕ). z * bits) e ∙ suc-mul (left - 1) bits in
      let s = p.small in let b = p.knows_table.laid_out.bits.0 in let is = p.bits_are in (room_within u number (left * bits) bits (omega arith) p.room, omega arith, omega arith)

  module _ {leaves bits number left key : ℕ} {request : Request} {u : SeatView} where
    -- a stage is what it was matched with
    pub stage_is : {v : SeatView} {stage same : Stage} → stage ≡ same → StageAt f leaves bits number left key request u stage v → StageAt f leaves bits number left key request u same v
    stage_is {v} is t = subst (λ (z : Stage). StageAt f leaves bits number left key request u z v) is t

    -- ---- the leaf is loaded

    module _ {old w : SeatView} {word : ℕ} (t : StageAt f leaves bits number left key request u Leaf old) (loaded : BeginsAtLeaf f old key word w) where
      from_start : BeginsAtLeaf f u key word w
      from_start = subst (λ (z : SeatView). BeginsAtLeaf f z key word w) t.is_stage loaded

      pub begun_change : goes_from request word ≡ true → StageAt f leaves bits number left key request u (Change word) w
      begun_change lets = record { is_pass = t.is_pass; some = t.some; low = t.low; fits = t.fits; is_stage = record { loaded = from_start; lets = lets } }

      pub begun_up : (done : Outcome) (a : Ascent) → goes_from request word ≡ false → done ≡ outcome_at_once request → a.level ≡ 0 → a.node ≡ leaves + key / 2 → a.second ≡ false → a.point ≡ Node → StageAt f leaves bits number left key request u (Up done a) w
      begun_up done a other says el en es ep = let p = t.is_pass in let r = room_one u leaves bits number left p t.some in let g = goes_begun f u w key word p.knows_table from_start in
          let m = may_rise f bits number key [] u w t.low p.bits_are r.0 g in record {
            is_pass = p;
            some = t.some;
            low = t.low;
            fits = t.fits;
            is_stage = record {
              leaf = w;
              has_begun = begun_here;
              has_left = record { found = word; more = []; steps = ap (λ (z : SeatView). z.steps) from_start.stepped; tried = λ lets. absurd (false≢true (sym other ∙ lets)) };
              finish = λ z risen. subst (Updated f (number + bits) u key request z) (sym says) (refused_at_once f u w key word request t.low p.knows_table from_start bits number p.bits_are r.2 z other risen).0;
              on_way = way_begins f bits number key w m a r.2 el (en ∙ ap (λ (z : ℕ). z + key / 2) (p.leaves_are.are ∙ ap (λ (z : Shape). 2 ^ z.bits) (sym g.shaped))) es ep;
            };
          }
        where
          begun_here : HasBegun f leaves bits number left key request u w
          begun_here = let l = from_start in record {
            began = ap (λ (z : SeatView). z.began) l.stepped;
            shaped = ap (λ (z : SeatView). z.shape) l.stepped;
            same_members = ap (λ (z : SeatView). z.members) l.stepped;
            same_eras = ap eras_of l.stepped;
            lane = ap (λ (z : SeatView). own_lane z.held) l.stepped;
          }

    -- ---- the leaf is exchanged

    module _ {old : SeatView} {word : ℕ} (t : StageAt f leaves bits number left key request u (Change word) old) where
      loaded : BeginsAtLeaf f u key word old
      loaded = t.is_stage.loaded

      g_old : Goes f 0 [] u old
      g_old = goes_begun f u old key word t.is_pass.knows_table loaded

      room_old : HasRoom old number bits
      room_old = room_on f [] u old number bits g_old (room_one u leaves bits number left t.is_pass t.some).0

      pub may_advance : MayAdvance old key word (word_after request key word)
      may_advance = advances f u old key word request t.low t.is_pass.knows_table loaded t.fits t.is_stage.lets

      pub may_try : MayChange old
      may_try = may_change old number bits room_old (let b = t.is_pass.budget in let some = t.some in
          let l : length (changes_of old.held) ≡ length (changes_of u.held) = ap (λ (z : List changed.Change). length z) (g_old.changes ∙ append-nil (changes_of u.held)) in
          let up : old.shape.updates ≡ u.shape.updates = ap (λ (z : Shape). z.updates) g_old.shaped in omega arith)

      module _ {w : SeatView} {ok : Bool} (tried : TriedLeaf f old key word (word_after request key word) ok w) where
        abbrev a : Advance
        a = asked f u old key word request t.low t.is_pass.knows_table loaded

        told_old : TriesLeaf f old key a tried.found w
        told_old = told f u old key word request t.low t.is_pass.knows_table loaded t.fits t.is_stage.lets w ok room_old.holds.0 room_old.holds.1 tried

        g_new : (gained : List changed.Change) × Goes f 0 gained old w
        g_new = goes_leaf f old w key tried.found a room_old.holds.0 room_old.holds.1 g_old.knows_table told_old

        same_beginning : w.began ≡ old.began
        same_beginning = ⊎_elim (λ (hit : tried.found ≡ old_word a). ap (λ (z : SeatView). z.began) (told_old.hit hit).0.changed) (λ miss. ap (λ (z : SeatView). z.began) (told_old.miss miss).0) (cases_eq tried.found (old_word a))

        pub tried_steps : w.steps ≡ old.steps ++ try_leaf key word (word_after request key word) tried.found ∷ []
        tried_steps = step_at_leaf f u old key word request t.low t.is_pass.knows_table loaded t.fits t.is_stage.lets w ok room_old.holds.0 room_old.holds.1 tried

        pub try_step : OneStep old w
        try_step = record { taken = try_leaf key word (word_after request key word) tried.found; steps = tried_steps; later = told_old.sees.later; shaped = g_new.1.shaped; same_members = g_new.1.same_members; same_eras = g_new.1.same_eras; lane = g_new.1.lane }

        pub tried_up : (done : Outcome) (up : Ascent) → done ≡ (if ok then outcome_by request word else Refused) → up.level ≡ 0 → up.node ≡ leaves + key / 2 → up.second ≡ false → up.point ≡ Node → StageAt f leaves bits number left key request u (Up done up) w
        tried_up done up comes el en es ep = let p = t.is_pass in let r = room_one u leaves bits number left p t.some in let gained = g_new.0 in
            let g = goes_after f 0 0 0 [] gained gained u old w (omega arith) (omega arith) refl g_old g_new.1 in
            let m = may_rise f bits number key gained u w t.low p.bits_are r.0 g in record {
              is_pass = p;
              some = t.some;
              low = t.low;
              fits = t.fits;
              is_stage = record {
                leaf = w;
                has_left = record {
                  found = word;
                  more = try_leaf key word (word_after request key word) tried.found ∷ [];
                  steps = tried_steps ∙ ap (λ (z : List StepTaken). z ++ try_leaf key word (word_after request key word) tried.found ∷ []) (ap (λ (z : SeatView). z.steps) loaded.stepped)
                      ∙ append_assoc u.steps (load_leaf key word ∷ []) (try_leaf key word (word_after request key word) tried.found ∷ []);
                  tried = λ lets. omega arith;
                };
                has_begun = record { began = same_beginning ∙ ap (λ (z : SeatView). z.began) loaded.stepped; shaped = g.shaped; same_members = g.same_members; same_eras = g.same_eras; lane = g.lane };
                finish = λ z risen. (updated f u old key word request t.low p.knows_table loaded bits number p.bits_are r.2 t.fits t.is_stage.lets w ok room_old.holds.0 room_old.holds.1 tried z risen done comes).0;
                on_way = way_begins f bits number key w m up r.2 el (en ∙ ap (λ (z : ℕ). z + key / 2) (p.leaves_are.are ∙ ap (λ (z : Shape). 2 ^ z.bits) (sym g.shaped))) es ep;
              };
            }

    -- ---- a step of the way to the root

    module _ {old : SeatView} {done : Outcome} {a : Ascent} (t : StageAt f leaves bits number left key request u (Up done a) old) where
      abbrev r : IsRising f leaves bits number left key request u done a old
      r = t.is_stage

      pub rising_on : {w : SeatView} (next : Ascent) → QuietStep old w → IsOnWay f bits number key r.leaf next w → StageAt f leaves bits number left key request u (Up done next) w
      rising_on next quiet way = let b = r.has_begun in let s = quiet.0 in record {
        is_pass = t.is_pass;
        some = t.some;
        low = t.low;
        fits = t.fits;
        is_stage = record {
          leaf = r.leaf;
          has_begun = record { began = quiet.1 ∙ b.began; shaped = s.shaped ∙ b.shaped; same_members = s.same_members ∙ b.same_members; same_eras = s.same_eras ∙ b.same_eras; lane = s.lane ∙ b.lane };
          has_left = let l = r.has_left in record {
            found = l.found;
            more = l.more ++ s.taken ∷ [];
            steps = s.steps ∙ ap (λ (z : List StepTaken). z ++ s.taken ∷ []) l.steps ∙ append_assoc u.steps (load_leaf key l.found ∷ l.more) (s.taken ∷ []);
            tried = λ lets. let some = l.tried lets in let long = length-append l.more (s.taken ∷ []) in omega arith;
          };
          finish = r.finish;
          on_way = way;
        };
      }

      pub risen_up : {w : SeatView} → HasRisen f bits number key r.leaf bits w → Updated f (number + bits) u key request w done
      risen_up {w} risen = r.finish w risen
