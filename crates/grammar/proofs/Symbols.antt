-- The bytes of symbols say those symbols. Assumes nothing.
use Rattle.std.proofs.Common.{◌≡◌, ℕ, zero, suc, ◌+◌, ◌-◌, ◌<◌, ◌≤◌, Bool, true, false, cond, List, [], ◌∷◌, length, drop, Some, None, Option, refl, ap, sym, ◌∙◌, arith, nat_lt, MatchOption}
use Rattle.std.specs.Prelude.{IsSomeAnd}
use Rattle.std.proofs.lemmas.Bool.{lt-ltb, le-ltb}
use Rattle.theory.specs.Grammar.{Symbol, Cfg, terminal, nonterminal, RuleAt, Slot, empty, rule}
use Rattle.theory.specs.Lists.{In, here, there}
use Rattle.theory.specs.Sound.{Limits, Known}
use Rattle.theory.specs.Count.{right_of}
use Rattle.grammar.specs.Interface.{byte_at, byte_of}
use Rattle.grammar.specs.Symbols.{symbol_of_byte, value_of, symbol_at}
use Rattle.grammar.specs.declared.Symbol.{Symbol as Value}
use Rattle.grammar.specs.declared.Symbol.TheVariants as value

-- the byte of a symbol says it, where there are at most 52 terminals
pub byte_says : (T N : ℕ) → T ≤ 52 → (X : Symbol) → Known T N X → symbol_of_byte (byte_of X) ≡ value_of X
byte_says T N h (terminal t) k = ap {B = Value} (λ b. cond b (value.Terminal t) (value.Nonterminal (t - 128))) (lt-ltb t 128 (omega (arith, h, k)))
byte_says T N h (nonterminal A) k =
    let low : (128 + A) - 128 ≡ A = omega arith in
    ap {B = Value} (λ b. cond b (value.Terminal (128 + A)) (value.Nonterminal ((128 + A) - 128))) (le-ltb (128 + A) 128 (omega arith))
    ∙ ap {B = Value} value.Nonterminal low

-- so at each position, for what the byte that is answered there is turned into
pub said_at : (T N : ℕ) → T ≤ 52 → (Xs : List Symbol) → ((X : Symbol) → In X Xs → Known T N X) → (i : ℕ) (b : Option ℕ) (o : Option Value) → b ≡ byte_at Xs i
    → MatchOption b (o ≡ None) (λ x. IsSomeAnd o (λ s. s ≡ symbol_of_byte x)) → o ≡ symbol_at Xs i
said_at T N h [] k i None o e m = m
said_at T N h [] k i (Some x) o e m = let z : ◌≡◌ {A = ℕ} 0 1 = cc in absurd (omega arith)
said_at T N h (X ∷ Xs) k zero (Some x) (Some s) e m =
    let same : x ≡ byte_of X = cc in
    ap {B = Option Value} Some (m ∙ ap {B = Value} symbol_of_byte same ∙ byte_says T N h X (k X (here refl)))
said_at T N h (X ∷ Xs) k zero (Some x) None e m = absurd m
said_at T N h (X ∷ Xs) k zero None o e m = let z : ◌≡◌ {A = ℕ} 0 1 = cc in absurd (omega arith)
said_at T N h (X ∷ Xs) k (suc i) b o e m = said_at T N h Xs (λ Y p. k Y (there p)) i b o e m

-- the right-hand sides of a grammar are of known symbols
pub known : {G : Cfg} → Limits G → (s : ℕ) (X : Symbol) → In X (right_of (G.slot s)) → Known G.terminals G.nonterminals X
known {G} l s X p = go (G.slot s) refl p
  where
    go : (o : Slot) → G.slot s ≡ o → In X (right_of o) → Known G.terminals G.nonterminals X
    go empty e q = elim q [ ]
    go (rule A Ys) e q = l.side_known s A Ys X e q

-- a symbol that is answered at a position stands there
pub stands_at : (Xs : List Symbol) (i : ℕ) (v : Value) → Some v ≡ symbol_at Xs i → (X : Symbol) × (drop i Xs ≡ X ∷ drop (suc i) Xs) × (value_of X ≡ v)
stands_at [] i v e = let z : ◌≡◌ {A = ℕ} 0 1 = cc in absurd (omega arith)
stands_at (X ∷ Xs) zero v e = (X, refl, cc)
stands_at (X ∷ Xs) (suc i) v e = stands_at Xs i v e

-- a terminal that is answered at a position stands there
pub terminal_at : (Ys : List Symbol) (p t : ℕ) → Some (value.Terminal t) ≡ symbol_at Ys p → drop p Ys ≡ terminal t ∷ drop (suc p) Ys
terminal_at [] p t e = absurd (cc)
terminal_at (terminal u ∷ Ys) zero t e = cc
terminal_at (nonterminal B ∷ Ys) zero t e = absurd (cc)
terminal_at (Y ∷ Ys) (suc p) t e = terminal_at Ys p t e

-- and so does a nonterminal
pub nonterminal_at : (Ys : List Symbol) (p A : ℕ) → Some (value.Nonterminal A) ≡ symbol_at Ys p → drop p Ys ≡ nonterminal A ∷ drop (suc p) Ys
nonterminal_at [] p A e = absurd (cc)
nonterminal_at (terminal u ∷ Ys) zero A e = absurd (cc)
nonterminal_at (nonterminal B ∷ Ys) zero A e = cc
nonterminal_at (Y ∷ Ys) (suc p) A e = nonterminal_at Ys p A e

-- where none is answered, the right-hand side has ended
pub none_at : (Ys : List Symbol) (p : ℕ) → None ≡ symbol_at Ys p → length Ys ≤ p
none_at [] p e = omega arith
none_at (Y ∷ Ys) zero e = absurd (cc)
none_at (Y ∷ Ys) (suc p) e = omega (arith, none_at Ys p e)
