use Rattle.std.proofs.Common.{◌≡◌, None, refl, ◌∙◌, ap}
use Rattle.std.proofs.lemmas.Result.{err_from_is_err_and}
use Rattle.theory.specs.Sets.{next_of}
use Rattle.grammar.specs.Interface.{next_of_lookahead}
use Rattle.stack.proofs.Tops.{held_none}
use Rattle.numbering.specs.declared.parsing.Stopped.{Stopped}
use Rattle.parser.specs.Parser.{no_choice}
use Rattle.numbering.proofs.Frames.{next_first, first_frame}
use Rattle.numbering.proofs.parsing.Parse.begin.Goals as goal

pub returns-in_err-slot : goal.returns-in_err-slot
returns-in_err-slot g c =
    let grammar = c.args.ranking.counts.now.grammar.now in
    let next : next_of_lookahead c.copied.result ≡ next_of c.args.tokens.now = ap next_of_lookahead (c.copied.ensures ∙ c.first.ensures.value) ∙ next_first c.args.tokens.now in
    let none = c.in_err-slot.ensures.ok_part in
    let stopped : Stopped = record { gone = 0 } in
    let same : c.in_err-slot.field-0.0 ≡ stopped = let e = rw none at c.in_err-slot.ensures.value in cc in
    let err = err_from_is_err_and c.from_residual.result c.from_residual.ensures.1 in
    let chosen : g.G.Grammar.chosen grammar (g.G.Grammar.meaning grammar).start (next_of c.args.tokens.now) ≡ None = rw (← c.start.ensures, ← next, ← c.choice.ensures) none in
    rw (err.1, err.2, same) (no_choice chosen)

pub returns : goal.returns
returns g c =
    let im = g.met.G.Grammar.implements c.args.ranking.counts.now.grammar.now in
    let next : next_of_lookahead c.copied.result ≡ next_of c.args.tokens.now = ap next_of_lookahead (c.copied.ensures ∙ c.first.ensures.value) ∙ next_first c.args.tokens.now in
    record {
      ranking = refl;
      tokens = refl;
      at =
          rw (c.blank.ensures, held_none c.over.result c.over.ensures.empty)
          (first_frame im c.in_ok-slot.slot (rw (← c.start.ensures, ← next, ← c.choice.ensures) c.in_ok-slot.ensures.ok_part));
    }
