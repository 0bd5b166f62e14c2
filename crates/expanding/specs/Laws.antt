-- The law of expanding, as a contract cites it.
use Rattle.std.specs.Prelude.{◌≡◌, ℕ, List, take, Ok}
use Rattle.theory.specs.Grammar.{Cfg, SentenceOf}
use Rattle.theory.specs.Sound.{Ll1}
use Rattle.theory.specs.Order.{LengthOrder, ListsLengths}
use Rattle.expanding.specs.declared.frame.Frame.{Frame}
use Rattle.expanding.specs.Calls.{HasNumber, ExpandAnswer}

-- an expansion of the number k of length n, over any table and any memory, is answered by Ok and leaves w
pub record Leaves (order : LengthOrder) (G : Cfg) (n k : ℕ) (w : List ℕ) : Type 0 where
  pub bound : ℕ
  pub cells : List ℕ
  pub stack : List Frame
  pub before : List ℕ
  pub after : List ℕ
  pub answer : ExpandAnswer {T = Unit {0}} order G bound cells n k stack before after (Ok tt)
  pub is : take n after ≡ w

-- w has one number: it is below the count of the start at n; where it is expanded, w is left; and no other number leaves w
pub record OneNumber (order : LengthOrder) (G : Cfg) (n : ℕ) (w : List ℕ) : Type 0 where
  pub number : ℕ
  pub below : HasNumber G n number
  pub leaves : (v : List ℕ) → Leaves order G n number v → v ≡ w
  pub only : (k : ℕ) → Leaves order G n k w → k ≡ number

-- each sentence of the start has one number
abbrev pub EachSentenceHasOneNumber : Type 0
EachSentenceHasOneNumber =
    (G : Cfg) (level : ℕ → ℕ) (order : LengthOrder) → Ll1 G level → ListsLengths order → (n : ℕ) (w : List ℕ) → SentenceOf G G.start n w → OneNumber order G n w
