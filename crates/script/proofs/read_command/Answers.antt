use Rattle.std.proofs.Common.{◌≡◌, Some, Ok, Err, Result, sym, ◌∙◌, List, ℕ}
use Rattle.std.specs.Result.{result_ok}
use Rattle.script.specs.Says.{Names, text}
use Rattle.script.specs.declared.keyword.Keyword.{Keyword}
use Rattle.script.specs.declared.keyword.UnknownKeyword.{UnknownKeyword}
use Rattle.script.proofs.Saying.{says_read}
use Rattle.script.proofs.read_command.Goals as goal

named : (word : List ℕ) (r : Result Keyword UnknownKeyword) (k : Keyword) → Names word r → result_ok r ≡ Some k → word ≡ text k
named word (Ok k) l h e = cc
named word (Err u) l h e = cc

pub returns : goal.returns
returns c = says_read c.args.text.now _ _ _ c.read.result (sym c.of-words.ensures ∙ c.in_ok-word.ensures.steps) (named c.in_ok-word.word.now c.try_from.result _ c.try_from.ensures (sym c.ok.ensures.value ∙ c.in_ok-keyword.was)) c.read.ensures
