use Rattle.std.proofs.Common.{◌+◌, ◌-◌, ◌≤◌, IsSome, length, sym, ◌∙◌, subst, arith}
use Rattle.theory.specs.Sets.{none}
use Rattle.theory.specs.Count.{right_of}
use Rattle.table.specs.CellsOf.{grammar_of, bound_of}
use Rattle.grammar.proofs.Symbols.{stands_at}
use Rattle.table.proofs.Shown.{is_shown, symbol_row}
use Rattle.table.proofs.Prefix.{prefix_ends, prefix_more, end_last}
use Rattle.table.proofs.cells.Cells.prefix_end.Goals as goal

pub loop-p-init : goal.loop-p-init
loop-p-init g c = none

pub unwrap-requires : goal.unwrap-requires
unwrap-requires g c = subst (λ o. IsSome o) (sym c.symbol_at.ensures) (is_shown _ c.loop-p.p (omega arith))

pub is_nullable-requires : goal.is_nullable-requires
is_nullable-requires g c =
    let f = g.met.G.Grammar.implements c.args.self.now.grammar.now in
    symbol_row f.limits c.args.s c.loop-p.p c.unwrap.result (stands_at (right_of ((g.G.Grammar.meaning c.args.self.now.grammar.now).slot c.args.s)) c.loop-p.p _ (sym c.unwrap.ensures ∙ c.symbol_at.ensures))

pub returns-then-not-is_nullable-clause-last : goal.returns-then-not-is_nullable-clause-last
returns-then-not-is_nullable-clause-last g c =
    prefix_ends (bound_of c.args.self.now) c.args.self.now.cells.now c.args.s c.loop-p.p c.unwrap.result c.loop-p.invariant c.requires.leaders (sym c.unwrap.ensures ∙ c.symbol_at.ensures) c.if-not-is_nullable.ensures

pub loop-p-preserved : goal.loop-p-preserved
loop-p-preserved g c =
    prefix_more (bound_of c.args.self.now) c.args.self.now.cells.now c.args.s c.loop-p.p c.unwrap.result c.loop-p.invariant c.requires.leaders (sym c.unwrap.ensures ∙ c.symbol_at.ensures) c.if-not-is_nullable.ensures

pub returns-clause-last : goal.returns-clause-last
returns-clause-last g c =
    let G = grammar_of c.args.self.now in
    let end : length (right_of (G.slot c.args.s)) ≤ c.length-end.result - 1 + 1 = omega arith in
    end_last G (right_of (G.slot c.args.s)) (c.length-end.result - 1) end
