-- Expanding and numbering undo each other, over one grammar and one table. Assumes nothing.
use Rattle.std.specs.Prelude.{◌≡◌, ℕ, ◌+◌, ◌*◌, ◌≤◌, List, length, take, Ok, Option, Result}
use Rattle.fault.specs.declared.Fault.{Fault}
use Rattle.theory.specs.Grammar.{Cfg}
use Rattle.theory.specs.Sets.{Next}
use Rattle.theory.specs.Order.{ascending}
use Rattle.expanding.specs.Calls.{ExpandAnswer}
use Rattle.expanding.specs.declared.frame.Frame.{Frame}
use Rattle.numbering.specs.Calls.{NumberAnswer}

-- what an expansion of k left at the front of its output has the number k: with entries enough, numbering answers nothing else
abbrev pub NumberingUndoesExpanding : Cfg → (ℕ → Next → Option ℕ) → Type 0
NumberingUndoesExpanding G chosen =
    (L : ℕ) (cells : List ℕ) (n k : ℕ) (stack : List Frame) (before after : List ℕ) → ExpandAnswer {T = Unit {0}} ascending G L cells n k stack before after (Ok tt) →
    (entries : ℕ) (r : Result ℕ Fault) → (n + 1) * G.nonterminals ≤ entries → NumberAnswer G chosen L cells entries (take n after) r → r ≡ Ok k

-- where numbering answered k for the tokens, an expansion of k at their length, with entries and output enough, is answered by Ok and leaves the tokens at the front of its output
abbrev pub ExpandingUndoesNumbering : Cfg → (ℕ → Next → Option ℕ) → Type 0
ExpandingUndoesNumbering G chosen =
    (L : ℕ) (cells : List ℕ) (entries : ℕ) (tokens : List ℕ) (k : ℕ) → NumberAnswer G chosen L cells entries tokens (Ok k) →
    (stack : List Frame) (before after : List ℕ) (r : Result (Unit {0}) Fault) → (length tokens + 1) * G.nonterminals ≤ length stack → length tokens ≤ length before →
    ExpandAnswer ascending G L cells (length tokens) k stack before after r → (r ≡ Ok tt) × (take (length tokens) after ≡ tokens)
