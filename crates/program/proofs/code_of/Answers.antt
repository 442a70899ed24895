-- `program::code_of` meets its contract: a guess by some bits of the word, tested.
-- Assumes nothing.
use mathlib.Core.Path.{sym, ap, ◌∙◌}
use Rattle.program.proofs.Spelling.{guess-named, guess-other, guesses}
use Rattle.program.proofs.code_of.Goals as goal

pub returns-then-name_of-word : goal.returns-then-name_of-word
unfolding guesses
returns-then-name_of-word c =
    guess-named c.args.word (sym (ap (λ n. n.word) c.name_of.ensures) ∙ c.if-name_of-word.true)

pub returns-else-name_of-word : goal.returns-else-name_of-word
unfolding guesses
returns-else-name_of-word c =
    guess-other c.args.word (λ e. c.if-name_of-word.false (ap (λ n. n.word) c.name_of.ensures ∙ e))
