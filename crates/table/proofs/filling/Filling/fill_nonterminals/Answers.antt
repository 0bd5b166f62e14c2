use Rattle.std.proofs.Common.{◌≡◌, ℕ, ◌+◌, ◌<◌, sym, ◌∙◌, subst, arith}
use Rattle.table.specs.FillingOf.{grammar_of, DoneRight, Stays}
use Rattle.table.specs.declared.filling.Filling.{Filling}
use Rattle.table.proofs.Fills.{level_skip}
use Rattle.table.proofs.Stays.{onward, stays_on, level_more}
use Rattle.table.proofs.filling.Filling.fill_nonterminals.Goals.{then-level+in_ok-fill_nonterminal, else-level}
use Rattle.table.proofs.filling.Filling.fill_nonterminals.Goals as goal

pub fill_nonterminal-requires : goal.fill_nonterminal-requires
fill_nonterminal-requires g c =
    let f = g.met.G.Grammar.implements c.loop-a.self.grammar.now in
    record {
      inside = onward c.loop-a.invariant.0 (λ h l n. c.loop-a.a < (g.G.Grammar.meaning h).nonterminals) (omega arith);
      corners = λ B l e. (c.loop-a.invariant.1 B l (omega (arith, f.levels.falls c.loop-a.a B e, c.level.ensures, c.if-level.true))).count;
    }

pub loop-a-preserved : goal.loop-a-preserved
loop-a-preserved g c =
    let y = c.loop-a.self in
    let h = g.G.Grammar.levels in
    let P : Filling _ _ → Type 0 = λ t.
    Stays c.loop-level.self t × ((B : ℕ) → B < (grammar_of t).nonterminals → h t.grammar.now B < c.loop-level.level → DoneRight t B)
    × ((B : ℕ) → B < c.loop-a.a + 1 → h t.grammar.now B ≡ c.loop-level.level → DoneRight t B) in
    elim c.if-level.branch [
      | then-level+in_ok-fill_nonterminal w ↦
          let got = w.in_ok-fill_nonterminal.ensures in
          let i = onward c.loop-a.invariant.0 (λ h l n. c.loop-a.a < (g.G.Grammar.meaning h).nonterminals) (omega arith) in
          let d = level_more h c.loop-level.level c.loop-a.a got.stays i got.done c.loop-a.invariant.1 c.loop-a.invariant.2 in
          subst P (sym w.self-is) (stays_on c.loop-a.invariant.0 got.stays, d.0, d.1)
      | else-level w ↦
          let other = level_skip (DoneRight y) (h y.grammar.now) c.loop-level.level c.loop-a.a (λ e. w.if-level.false (◌∙◌ {b = h y.grammar.now c.loop-a.a} c.level.ensures e)) c.loop-a.invariant.2 in
          subst P (sym w.self-is) (c.loop-a.invariant.0, c.loop-a.invariant.1, other)
    ]

pub returns-clause-done : goal.returns-clause-done
returns-clause-done g c =
    let f = g.met.G.Grammar.implements c.loop-level.self.grammar.now in
    λ B l. c.loop-level.invariant.1 B l (omega (arith, f.levels.small B))
