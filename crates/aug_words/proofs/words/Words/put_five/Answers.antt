use Rattle.std.proofs.Common.{arith, ap, ◌∙◌, ◌+◌, List, ℕ, set, get_or}
use Rattle.aug_words.proofs.Lays.{five_put, part_words}
use Rattle.aug_words.proofs.words.Words.put_five.Goals as goal

pub returns-clause-writes : goal.returns-clause-writes
returns-clause-writes g c = let long = part_words _ _ _ _ _ c.requires.may in let inside = c.requires.inside in let i : ℕ = c.args.start in let five : List ℕ = c.args.five in
    five_put _ five i (omega arith) _ (c.put_word-5.ensures.puts.puts ∙ ap (λ (z : List ℕ). set z (i + 4) (get_or five 4 0)) (c.put_word-4.ensures.puts.puts ∙ ap (λ (z : List ℕ). set z (i + 3) (get_or five 3 0))
    (c.put_word-3.ensures.puts.puts ∙ ap (λ (z : List ℕ). set z (i + 2) (get_or five 2 0)) (c.put_word-2.ensures.puts.puts ∙ ap (λ (z : List ℕ). set z (i + 1) (get_or five 1 0)) c.put_word.ensures.puts.puts))))
