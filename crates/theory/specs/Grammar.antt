-- Context-free grammars over numbered slots, and the token lists that symbols derive. Assumes nothing.
use Rattle.std.specs.Prelude.{◌≡◌, ℕ, List, [], ◌∷◌, ◌++◌, length}

-- a symbol is a terminal or a nonterminal, by its number
pub data Symbol : Type 0 where
  terminal : ℕ → Symbol
  nonterminal : ℕ → Symbol
  deriving IsSet as symbol_set

-- a slot is a numbered place for a rule: it is empty, or holds a left-hand nonterminal and a right-hand side
pub data Slot : Type 0 where
  empty : Slot
  rule : ℕ → List Symbol → Slot
  deriving IsSet as slot_set

-- a context-free grammar; terminals, nonterminals and slots are numbered from 0
pub record Cfg : Type 0 where
  pub terminals : ℕ
  pub nonterminals : ℕ
  pub start : ℕ
  pub slots : ℕ
  pub slot : ℕ → Slot

-- slot s of G holds the rule A → Ys
abbrev pub RuleAt : Cfg → ℕ → ℕ → List Symbol → Type 0
RuleAt G s A Ys = G.slot s ≡ rule A Ys

-- a derivation of a token list from a list of symbols, leftmost symbol first:
-- no symbols derive no tokens; a terminal derives itself; a nonterminal derives what a right-hand side of one of its rules derives
pub data Derives (G : Cfg) : List Symbol → List ℕ → Type 0 where
  done : Derives G [] []
  read : {t a : ℕ} {Xs : List Symbol} {w : List ℕ} → a ≡ t → Derives G Xs w → Derives G (terminal t ∷ Xs) (a ∷ w)
  expand : {A : ℕ} {Xs : List Symbol} {x : List ℕ} (s : ℕ) (Ys : List Symbol) (u v : List ℕ) → RuleAt G s A Ys → x ≡ u ++ v → Derives G Ys u → Derives G Xs v
      → Derives G (nonterminal A ∷ Xs) x

-- a sentence of A: a list of terminals derived from A
abbrev pub Sentence : Cfg → ℕ → List ℕ → Type 0
Sentence G A w = Derives G (nonterminal A ∷ []) w

-- a sentence of A of length m
abbrev pub SentenceOf : Cfg → ℕ → ℕ → List ℕ → Type 0
SentenceOf G A m w = Sentence G A w × (length w ≡ m)

-- the slots that a derivation uses, in the order in which they are expanded
unfoldable pub parse : {G : Cfg} {Xs : List Symbol} {w : List ℕ} → Derives G Xs w → List ℕ
parse done = []
parse (read p d) = parse d
parse (expand s Ys u v r e d₁ d₂) = s ∷ (parse d₁ ++ parse d₂)
