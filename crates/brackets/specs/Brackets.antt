-- The grammar of k kinds of brackets, its choice, and what setting k answers. Assumes nothing.
use Rattle.std.specs.Prelude.{ℕ, ◌+◌, ◌*◌, Bool, cond, ◌&&◌, List, [], ◌∷◌, Some, None, Ok, Err, Option, Result, ◌==◌, nat_le, nat_lt}
use Rattle.fault.specs.declared.Fault.{Fault}
use Rattle.fault.specs.declared.Fault.TheVariants.{SettingRefused}
use Rattle.theory.specs.Grammar.{Symbol, terminal, nonterminal, Slot, empty, rule, Cfg}
use Rattle.theory.specs.Sets.{Next, token, end}

-- an opening bracket of kind i, brackets, the closing bracket of that kind, brackets
abbrev pub bracket_side : ℕ → ℕ → List Symbol
bracket_side k i = terminal i ∷ (nonterminal 0 ∷ (terminal (k + i) ∷ (nonterminal 0 ∷ [])))

-- slot i below k opens and closes a pair of kind i; slot k is the empty right-hand side
abbrev pub bracket_slot : ℕ → ℕ → Slot
bracket_slot k i = cond (nat_lt i k) (rule 0 (bracket_side k i)) (cond (i == k) (rule 0 []) empty)

-- the grammar of k kinds of brackets
abbrev pub bracket_grammar : ℕ → Cfg
bracket_grammar k = record { terminals = 2 * k; nonterminals = 1; start = 0; slots = k + 1; slot = bracket_slot k }

-- slot t at an opening bracket t; slot k at a closing bracket and at the end
abbrev pub bracket_choice : ℕ → ℕ → Next → Option ℕ
bracket_choice k A (token t) = cond (A == 0) (cond (nat_lt t k) (Some t) (cond (nat_lt t (2 * k)) (Some k) None)) None
bracket_choice k A end = cond (A == 0) (Some k) None

-- there may be 1 to 16 kinds
abbrev pub kinds_allowed : ℕ → Bool
kinds_allowed k = nat_le 1 k && nat_le k 16

-- what setting the number of kinds answers
abbrev pub kinds_answer : ℕ → Result Unit Fault
kinds_answer k = cond (kinds_allowed k) (Ok tt) (Err (SettingRefused k))
