-- The open frames of a derivation, each opened for a nonterminal of the frame below it. Assumes nothing.
use Rattle.std.specs.Prelude.{◌≡◌, ℕ, zero, suc, ◌+◌, ◌*◌, ◌≤◌, cond, List, [], ◌∷◌, length, take, drop, Some, nat_lt}
use Rattle.theory.specs.Grammar.{Symbol, nonterminal, Cfg}
use Rattle.theory.specs.Sets.{Nullable}
use Rattle.theory.specs.Count.{left_of, right_of}

-- where a frame stands: a slot, and a position in its right-hand side
pub record Place : Type 0 where
  pub slot : ℕ
  pub position : ℕ

-- the right-hand side that a place is in
abbrev pub side_of : Cfg → Place → List Symbol
side_of G p = right_of (G.slot p.slot)

-- the suffix behind a place
abbrev pub suffix_of : Cfg → Place → List Symbol
suffix_of G p = drop p.position (side_of G p)

-- the place at the front of slot s
abbrev pub front_of : ℕ → Place
front_of s = record { slot = s; position = 0 }

-- one position further
abbrev pub next_place : Place → Place
next_place p = record { slot = p.slot; position = p.position + 1 }

-- how many of the first n nonterminals have a higher level than A
unfoldable pub higher : (ℕ → ℕ) → ℕ → ℕ → ℕ
higher level zero A = 0
higher level (suc n) A = higher level n A + cond (nat_lt (level A) (level n)) 1 0

-- slot s is one of A's, and was opened with `below` frames below it, when `from` tokens were gone;
-- if none has gone since, then only nullable symbols stand before position p.
-- So many frames are below it at most: N for each token gone, and one for each nonterminal of a higher level
pub record OpenFrame (G : Cfg) (level : ℕ → ℕ) (s p below from gone A : ℕ) : Type 0 where
  pub of : left_of (G.slot s) ≡ Some A
  pub since : from ≤ gone
  pub nullable : gone ≡ from → Nullable G (take p (right_of (G.slot s)))
  pub deep : below ≤ from * G.nonterminals + higher level G.nonterminals A

-- the frames below a frame of A that was opened when `gone` tokens were gone, the upper first: each stands one past the nonterminal for which the next was opened
pub data Below (G : Cfg) (level : ℕ → ℕ) : List Place → ℕ → ℕ → Type 0 where
  bottom : {A gone : ℕ} → Below G level [] A gone
  above : {q : Place} {qs : List Place} {A gone : ℕ} (p B from : ℕ) → q.position ≡ p + 1 → drop p (side_of G q) ≡ nonterminal A ∷ suffix_of G q
      → OpenFrame G level q.slot p (length qs) from gone B → Below G level qs B from → Below G level (q ∷ qs) A gone

-- the open frames, the top first, when `gone` tokens are gone
pub data Chain (G : Cfg) (level : ℕ → ℕ) : List Place → ℕ → Type 0 where
  closed : {gone : ℕ} → Chain G level [] gone
  top : {p : Place} {ps : List Place} {gone : ℕ} (A from : ℕ) → OpenFrame G level p.slot p.position (length ps) from gone A → Below G level ps A from
      → Chain G level (p ∷ ps) gone
