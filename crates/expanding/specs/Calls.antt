-- What an expansion answers, and what it leaves in the output. Assumes nothing.
use Rattle.std.specs.Prelude.{◌≡◌, ℕ, ◌<◌, ◌≤◌, List, length, take, is_ok, Some, Decides, Result, MatchResult}
use Rattle.fault.specs.declared.Fault.{Fault}
use Rattle.fault.specs.declared.Fault.TheVariants.{NumberTooLarge}
use Rattle.theory.specs.Grammar.{Cfg}
use Rattle.theory.specs.Order.{LengthOrder, Rank}
use Rattle.theory.specs.Count.{Count}
use Rattle.table.specs.Calls.{SamePast}
use Rattle.table.specs.Checked.{Usable, Unusable}
use Rattle.table.specs.declared.Lent.{Lent}

-- the start has a sentence of length n with the number k: k is below the count
pub record HasNumber (G : Cfg) (n k : ℕ) : Type 0 where
  pub count : ℕ
  pub counts : Count G G.start n count
  pub below : k < count

-- the start has no such sentence: its count c at n is not above k, and the fault names it. No other fault
pub data NoNumber (G : Cfg) (n k : ℕ) : Fault → Type 0 where
  too_large : (c : ℕ) → Count G G.start n c → c ≤ k → NoNumber G n k (NumberTooLarge c)

-- the first n bytes of the output are the sentence of the start with the rank k, and the others are unchanged
pub record Expanded (order : LengthOrder) (G : Cfg) (n k : ℕ) (before after : List ℕ) : Type 0 where
  pub ranked : Rank G order G.start (take n after) k
  pub long : length (take n after) ≡ n
  pub rest : SamePast n before after

-- what is answered where the table may be used: the sentence is written, or there is none with that number, and the output is unchanged
abbrev pub SentenceAnswer : {T : Type 0} → LengthOrder → Cfg → ℕ → ℕ → List ℕ → List ℕ → Result T Fault → Type 0
SentenceAnswer order G n k before after r = MatchResult r (λ _. Expanded order G n k before after) (λ f. NoNumber G n k f × (after ≡ before))

-- the memory that an expansion is lent besides the cells
abbrev pub lent_by : {E : Type 0} → List E → List ℕ → Lent
lent_by stack output = record { stack = Some (length stack); output = Some (length output) }

-- why an expansion is refused: the table may not be used, or the number is not below the count
pub data ExpandRefused (G : Cfg) (L : ℕ) (cells : List ℕ) (n k : ℕ) (lent : Lent) : Fault → Type 0 where
  unusable : {f : Fault} → Unusable G L cells n lent f → ExpandRefused G L cells n k lent f
  no_number : {f : Fault} → Usable G L cells n lent → NoNumber G n k f → ExpandRefused G L cells n k lent f

-- what an expansion answers, and what it leaves, where parts come in that order of lengths
pub record ExpandAnswer {T E : Type 0} (order : LengthOrder) (G : Cfg) (L : ℕ) (cells : List ℕ) (n k : ℕ) (stack : List E) (before after : List ℕ) (r : Result T Fault) : Type 0 where
  -- the table may be used and the sentence is written; or why it is refused, and the output is unchanged
  pub answer : MatchResult r (λ _. Usable G L cells n (lent_by stack before) × Expanded order G n k before after)
      (λ f. ExpandRefused G L cells n k (lent_by stack before) f × (after ≡ before))
  -- Ok is answered exactly where the table may be used and the number is below the count
  pub exactly : Decides (is_ok r) (Usable G L cells n (lent_by stack before) × HasNumber G n k)
