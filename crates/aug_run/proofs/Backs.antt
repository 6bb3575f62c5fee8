-- The passes that came back, and the replies in the order of the script.
use Rattle.std.proofs.Common.{◌≡◌, ℕ, ◌<◌, ◌==◌, Bool, true, false, cond, List, [], ◌∷◌, ◌++◌, length, map, get_or, refl, sym, ap, ◌∙◌, subst, drop, inl, inr, arith, All}
use Rattle.std.proofs.lemmas.Bool.{cases_lt}
use Rattle.std.proofs.lemmas.List.{map-append, length-map, length-append, get_or_append_left}
use Rattle.std.proofs.Math.Seq.{get_or-append_seam}
use Rattle.aug_trie.specs.Crew.{CrewFacts}
use Rattle.aug_trie.specs.Round.{RoundFacts}
use Rattle.aug_trie.specs.Knowledge.{Knowledge}
use Rattle.aug_trie.specs.Passes.{HandedBack}
use Rattle.aug_report.specs.AllowedReport.{Lane, AnswersAll, lines_of}
use Rattle.aug_run.specs.inside.Returns.{AreAnswered, AreInOrder, RanLanes, WentBack}
use Rattle.aug_run.specs.inside.RoundLanes.{BacksAll}
use Rattle.aug_run.specs.inside.Workers.{RunsTo, opening_cut_of, rows_of}
use Rattle.aug_script.specs.declared.reply.Reply.{Reply}
use Rattle.aug_script.specs.declared.row.Row.{Row}

backs_snoc : (lanes : List Lane) (lane : Lane) (old mid new : Knowledge) → BacksAll lanes old mid → HandedBack mid lane.knows new → BacksAll (lanes ++ lane ∷ []) old new
unfolding BacksAll
backs_snoc [] lane old mid new same back = let first : HandedBack old lane.knows new = rw same at back in (new, first, refl)
backs_snoc (first ∷ lanes) lane old mid new all back = (all.0, all.1, backs_snoc lanes lane all.0 mid new all.2 back)

append_end : {A : Type 0} (xs : List A) (x d : A) (n : ℕ) → length xs ≡ n → get_or (xs ++ x ∷ []) n d ≡ x
append_end xs x d n long = subst (λ (k : ℕ). get_or (xs ++ x ∷ []) k d ≡ x) long (get_or-append_seam xs x [] d)

pub went_none : (round : RoundFacts) (rows : List Row) (knows : Knowledge) → WentBack round rows [] knows knows
unfolding BacksAll
went_none round rows knows = record { ends = []; one_each = refl; runs = λ lane d low. absurd (omega arith); backs = refl }

-- one more pass came back, of the next lane
pub went_more : (round : RoundFacts) (rows : List Row) (all : List (List Reply)) (replies : List Reply) (end : Lane) (old mid new : Knowledge) → WentBack round rows all old mid
    → RunsTo (opening_cut_of round) (rows_of (length all) rows) replies end → HandedBack mid end.knows new → WentBack round rows (all ++ replies ∷ []) old new
went_more round rows all replies end old mid new went runs back =
    let n = length all in
    let longer = length-append went.ends (end ∷ []) in
    record {
      ends = went.ends ++ end ∷ [];
      one_each = omega (arith, longer, went.one_each, length-append all (replies ∷ []));
      runs = λ lane d low. elim (cases_lt lane n) [
        | inl less ↦ rw (get_or_append_left went.ends (end ∷ []) d lane (omega (arith, went.one_each, less)), get_or_append_left all (replies ∷ []) [] lane less) (went.runs lane d (omega (arith, went.one_each, less)))
        | inr ge ↦
            let is : n ≡ lane = omega (arith, low, longer, went.one_each, ge) in
            let here = rw is at runs in
            rw (append_end went.ends end d lane (went.one_each ∙ is), append_end all replies [] lane is) here
      ];
      backs = backs_snoc went.ends end old mid new went.backs back;
    }

-- the same, as the code keeps the replies of a lane
pub went_on : {I : Type 0} (f : I → List Reply) (round : RoundFacts) (rows : List Row) (lanes lanes' : List I) (it : I) (replies : List Reply) (n : ℕ) (end : Lane) (old mid new : Knowledge)
    → lanes' ≡ lanes ++ it ∷ [] → f it ≡ replies → length lanes ≡ n → WentBack round rows (map f lanes) old mid → RunsTo (opening_cut_of round) (rows_of n rows) replies end → HandedBack mid end.knows new
    → WentBack round rows (map f lanes') old new
went_on f round rows lanes lanes' it replies n end old mid new is given long went runs back =
    let number : n ≡ length (map f lanes) = sym (length-map lanes f ∙ long) in
    let here = rw number at runs in
    let all : map f lanes' ≡ map f lanes ++ replies ∷ [] = ap (map f) is ∙ map-append f lanes (it ∷ []) ∙ ap (λ r. map f lanes ++ r ∷ []) given in
    rw all (went_more round rows (map f lanes) replies end old mid new went here back)

-- each lane has as many replies as rows
pub are_answered : (round : RoundFacts) (rows : List Row) (all : List (List Reply)) (old new : Knowledge) (workers : ℕ) → WentBack round rows all old new → length all ≡ workers → All (λ row. row.lane < workers) rows
    → AreAnswered rows all
are_answered round rows all old new workers went long lanes = record {
  of_lanes = rw long lanes;
  as_many = λ lane low.
      let r = (went.runs lane (record { knows = old; held = [] }) (omega (arith, low, went.one_each))).answered in
      ap (λ (l : List Reply). length l) (sym r.replies_are) ∙ length-map r.lines (λ (l : Row × Reply). l.1) ∙ sym (length-map r.lines (λ (l : Row × Reply). l.0)) ∙ ap (λ (l : List Row). length l) r.rows_are;
}

-- lines with the same rows and replies are the same
pub same_lines : (xs ys : List (Row × Reply)) → map (λ l. l.0) xs ≡ map (λ l. l.0) ys → map (λ l. l.1) xs ≡ map (λ l. l.1) ys → xs ≡ ys
same_lines [] [] rows replies = refl
same_lines [] (y ∷ ys) rows replies = absurd (omega (arith, ap (λ (l : List Row). length l) rows))
same_lines (x ∷ xs) [] rows replies = absurd (omega (arith, ap (λ (l : List Row). length l) rows))
same_lines (x ∷ xs) (y ∷ ys) rows replies =
    let row = ap (λ (l : List Row). get_or l 0 x.0) rows in
    let reply = ap (λ (l : List Reply). get_or l 0 x.1) replies in
    let rest = same_lines xs ys (ap (λ (l : List Row). drop 1 l) rows) (ap (λ (l : List Reply). drop 1 l) replies) in
    λ i. (row i, reply i) ∷ rest i

-- the rows of a lane's lines
pub lines_rows : (lane : ℕ) (lines : List (Row × Reply)) → map (λ l. l.0) (lines_of lane lines) ≡ rows_of lane (map (λ l. l.0) lines)
lines_rows lane [] = refl
lines_rows lane (line ∷ lines) = by_test (line.0.lane == lane) (lines_rows lane lines)
  where
    by_test : (b : Bool) → map (λ l. l.0) (lines_of lane lines) ≡ rows_of lane (map (λ l. l.0) lines)
        → map (λ l. l.0) (cond b (line ∷ lines_of lane lines) (lines_of lane lines)) ≡ cond b (line.0 ∷ rows_of lane (map (λ l. l.0) lines)) (rows_of lane (map (λ l. l.0) lines))
    by_test true rest = ap (λ (l : List Row). line.0 ∷ l) rest
    by_test false rest = rest

-- all lanes ran their lines
pub ran_lanes : (round : RoundFacts) (rows : List Row) (all : List (List Reply)) (lines : List (Row × Reply)) (before : Knowledge) (crew : CrewFacts)
    → before.accepted ≡ [] → length all ≡ round.workers → WentBack round rows all before crew.knows → AreInOrder rows all lines → crew.round ≡ round → crew.back ≡ crew.handed → RanLanes round rows lines crew
ran_lanes round rows all lines before crew nothing long went order together back = record {
  rows_are = order.rows_are;
  ends = went.ends;
  one_each = went.one_each ∙ long;
  runs = λ lane d low.
      let r = went.runs lane d (omega (arith, low, went.one_each, long)) in
      let same : r.answered.lines ≡ lines_of lane lines =
      same_lines r.answered.lines (lines_of lane lines) (r.answered.rows_are ∙ ap (rows_of lane) (sym order.rows_are) ∙ sym (lines_rows lane lines))
      (r.answered.replies_are ∙ sym (order.replies_are lane (omega (arith, low, long)))) in
      (r.start, r.started, subst (λ (l : List (Row × Reply)). AnswersAll l r.start (get_or went.ends lane d)) same r.answered.answers);
  before = before;
  no_change = nothing;
  backs = went.backs;
  together = together;
  all_back = back;
}
