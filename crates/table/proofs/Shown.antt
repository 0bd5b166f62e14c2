-- Right-hand sides by the symbols that the program reads of them.
use Rattle.std.proofs.Common.{◌≡◌, ℕ, zero, suc, ◌<◌, List, [], ◌∷◌, length, drop, IsSome, sym, refl, ap, subst, arith}
use Rattle.theory.specs.Grammar.{Symbol, terminal, nonterminal, Cfg}
use Rattle.theory.specs.Sound.{Limits}
use Rattle.theory.specs.Count.{right_of, symbol_count}
use Rattle.grammar.specs.Symbols.{value_of, symbol_at}
use Rattle.grammar.specs.declared.Symbol.{Symbol as Value}
use Rattle.table.specs.Rows.{cell_at}
use Rattle.table.specs.Terms.{symbol_cell}
use Rattle.table.specs.Layouts.{SymbolRow}
use Rattle.table.proofs.Sides.{nonterminal_known}
use Rattle.table.proofs.Rows.{nonterminal_row}

-- the symbol that is read at p, what stands behind it, and what it is as a value
abbrev pub ShownAt : List Symbol → ℕ → Value → Type 0
ShownAt Ys p X = (Y : Symbol) × (drop p Ys ≡ Y ∷ drop (suc p) Ys) × (value_of Y ≡ X)

-- a position in a list has one
pub is_shown : (Ys : List Symbol) (p : ℕ) → p < length Ys → IsSome (symbol_at Ys p)
is_shown [] p l = absurd (omega arith)
is_shown (Y ∷ Ys) zero l = refl
is_shown (Y ∷ Ys) (suc p) l = is_shown Ys p (omega arith)

-- its count
pub symbol_cell_is : (L : ℕ) (t : List ℕ) (X : Value) (Y : Symbol) → value_of Y ≡ X → (j : ℕ) → symbol_cell L t X j ≡ symbol_count (cell_at L t) Y j
symbol_cell_is L t X (terminal a) e j = ap (λ (Z : Value). symbol_cell L t Z j) (sym e)
symbol_cell_is L t X (nonterminal B) e j = ap (λ (Z : Value). symbol_cell L t Z j) (sym e)

-- a nonterminal that is read has a row
pub symbol_row : {G : Cfg} → Limits G → (s p : ℕ) (X : Value) → ShownAt (right_of (G.slot s)) p X → SymbolRow G X
symbol_row {G} z s p X i = subst (λ (Y : Value). SymbolRow G Y) i.2 (go i.0 i.1)
  where
    go : (Y : Symbol) → drop p (right_of (G.slot s)) ≡ Y ∷ drop (suc p) (right_of (G.slot s)) → SymbolRow G (value_of Y)
    go (terminal a) e = tt
    go (nonterminal B) e = nonterminal_row G B (nonterminal_known z s p B (drop (suc p) (right_of (G.slot s))) e)
