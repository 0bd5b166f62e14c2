use Rattle.std.proofs.Common.{◌≡◌, sym, refl, ap, ◌∙◌, arith, length-set}
use Rattle.table.specs.Rows.{first_row}
use Rattle.table.proofs.Rows.{first_row_none, first_row_more, first_row_le, rows_few}
use Rattle.table.proofs.Writes.{below_set, zeros_at, past_write}
use Rattle.table.proofs.layout.lay_out.Goals as goal

pub loop-s-init : goal.loop-s-init
loop-s-init g c = (c.nonterminals-rows.ensures ∙ sym (first_row_none _), refl, (λ q l. absurd (omega arith)), λ q l. zeros_at 64 q)

pub overflow_add-rows : goal.overflow_add-rows
overflow_add-rows g c =
    let G = g.G.Grammar.meaning c.args.g.now in
    let f = g.met.G.Grammar.implements c.args.g.now in
    omega (arith, rows_few f.limits, first_row_le G c.loop-s.s G.slots (omega arith), c.length.type_inv)

pub overflow_cast-result : goal.overflow_cast-result
overflow_cast-result g c =
    let G = g.G.Grammar.meaning c.args.g.now in
    let f = g.met.G.Grammar.implements c.args.g.now in
    omega (arith, rows_few f.limits, first_row_le G c.loop-s.s G.slots (omega arith), c.loop-s.invariant.0)

pub loop-s-preserved : goal.loop-s-preserved
loop-s-preserved g c =
    let G = g.G.Grammar.meaning c.args.g.now in
    let f = g.met.G.Grammar.implements c.args.g.now in (
      omega (arith, first_row_more G c.loop-s.s),
      length-set c.loop-s.offsets c.loop-s.s c.loop-s.rows ∙ c.loop-s.invariant.1,
      below_set (λ q v. v ≡ first_row G q) c.loop-s.offsets c.loop-s.s c.loop-s.rows (omega (arith, f.limits.slots_high)) c.loop-s.invariant.2 c.loop-s.invariant.0,
      λ q l. past_write c.loop-s.offsets c.loop-s.s q c.loop-s.rows c.loop-s.invariant.3 l,
    )

pub returns-clause-laid : goal.returns-clause-laid
returns-clause-laid g c =
    let G = g.G.Grammar.meaning c.args.g.now in
    let e : c.loop-s.s ≡ G.slots = omega arith in
    record {
      bound = refl;
      rows = c.loop-s.invariant.0 ∙ ap (first_row G) e;
      offsets = λ s l. c.loop-s.invariant.2 s (omega arith);
    }

pub returns-clause-past : goal.returns-clause-past
returns-clause-past g c = λ s l. c.loop-s.invariant.3 s (omega arith)
