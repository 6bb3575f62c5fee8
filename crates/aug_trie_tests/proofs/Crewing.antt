-- What crews keep from step to step, for the answers of the tests that look at them.
use Rattle.std.proofs.Common.{◌≡◌, ◌∙◌, ◌+◌, ℕ, Result, Ok, ap, sym, subst, arith}
use Rattle.std.specs.Prelude.{IfOk}
use Rattle.aug_trie.specs.Crew.{CrewFacts, HandsOut}
use Rattle.aug_trie.specs.Pass.{PassFacts}

-- the crew is of the same round, and handed out and took back so many passes more
pub record Since (out home : ℕ) (was now : CrewFacts) : Type 0 where
  pub round : now.round ≡ was.round
  pub out_is : now.handed ≡ was.handed + out
  pub home_is : now.back ≡ was.back + home

-- a pass that was handed out is of the crew's round
pub handed_round : {E : Type 0} (old new : CrewFacts) (pass : PassFacts) (result : Result PassFacts E) → IfOk result (λ p. HandsOut old new p)
    → result ≡ Ok pass → pass.round ≡ old.round
handed_round {E} old new pass result hands is =
    let told : HandsOut old new pass = subst (λ (z : Result PassFacts E). IfOk z (λ p. HandsOut old new p)) is hands in
    ap (λ (z : PassFacts). z.round) told.pass_is

-- one that it hands out is out
pub handed_since : {E : Type 0} (old new : CrewFacts) (pass : PassFacts) (result : Result PassFacts E) → IfOk result (λ p. HandsOut old new p)
    → result ≡ Ok pass → Since 1 0 old new
handed_since {E} old new pass result hands is =
    let told : HandsOut old new pass = subst (λ (z : Result PassFacts E). IfOk z (λ p. HandsOut old new p)) is hands in
    let home = ap (λ (z : CrewFacts). z.back) told.crew_is in
    record { round = ap (λ (z : CrewFacts). z.round) told.crew_is; out_is = ap (λ (z : CrewFacts). z.handed) told.crew_is; home_is = omega (arith, home) }

-- a crew that asks hands nothing out and takes nothing back
pub asked_since : (out home : ℕ) (was old new : CrewFacts) → Since out home was old → new ≡ record old { steps = new.steps } → Since out home was new
asked_since out home was old new since is =
    record {
      round = ap (λ (z : CrewFacts). z.round) is ∙ since.round;
      out_is = ap (λ (z : CrewFacts). z.handed) is ∙ since.out_is;
      home_is = ap (λ (z : CrewFacts). z.back) is ∙ since.home_is;
    }

-- nor does one that learns
pub learnt_since : (out home : ℕ) (was old new : CrewFacts) → Since out home was old
    → new ≡ record old { knows = new.knows; steps = new.steps; words = new.words } → Since out home was new
learnt_since out home was old new since is =
    record {
      round = ap (λ (z : CrewFacts). z.round) is ∙ since.round;
      out_is = ap (λ (z : CrewFacts). z.handed) is ∙ since.out_is;
      home_is = ap (λ (z : CrewFacts). z.back) is ∙ since.home_is;
    }

-- one pass is out, where none was
pub one_out : (was now : CrewFacts) → Since 1 0 was now → was.back ≡ was.handed → now.back + 1 ≡ now.handed
one_out was now since none = omega (arith, since.out_is, since.home_is, none)

-- a half of a pass that made a change is of the round of the crew
pub half_of : (half first pass : PassFacts) (was now : CrewFacts) → half ≡ first → first.round ≡ pass.round → pass.round ≡ was.round
    → now.round ≡ was.round → half.round ≡ now.round
half_of half first pass was now is one of same = ap (λ (z : PassFacts). z.round) is ∙ one ∙ of ∙ sym same
