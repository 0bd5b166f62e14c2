use Rattle.std.proofs.Common.{ℕ, ◌+◌, ◌<◌, ◌≤◌, length, take, arith}
use Rattle.theory.specs.Sets.{Nullable}
use Rattle.theory.specs.Count.{right_of}
use Rattle.table.specs.Rows.{RowOf}
use Rattle.table.specs.Filling.{Correct, LeadingCorrect}
use Rattle.table.specs.FillingOf.{grammar_of}
use Rattle.table.specs.declared.Row.TheVariants.{Suffix}
use Rattle.table.proofs.Prefix.{end_last, leaders_zero, done_leaders, done_firsts, rest_done}
use Rattle.table.proofs.Stays.{onward, right_back, unless_over, read_back, read_on}
use Rattle.table.proofs.filling.Filling.fill_rest.Goals as goal

pub prefix_end-end-requires-clause-leaders : goal.prefix_end-end-requires-clause-leaders
prefix_end-end-requires-clause-leaders g c =
    let x = c.args.self.now in
    let f = g.met.G.Grammar.implements x.grammar.now in
    let h = leaders_zero f.limits x.ready.below c.args.s (done_leaders f.limits c.requires.prefixes c.args.s) in
    read_on c.view.ensures (λ h l t. LeadingCorrect (g.G.Grammar.meaning h) l.bound t (right_of ((g.G.Grammar.meaning h).slot c.args.s)) 0) h

pub fill_suffixes-requires-clause-firsts : goal.fill_suffixes-requires-clause-firsts
fill_suffixes-requires-clause-firsts g c =
    let f = g.met.G.Grammar.implements c.args.self.now.grammar.now in
    done_firsts f.limits c.requires.prefixes c.args.s c.length-n.result

pub fill_suffixes-requires-clause-last : goal.fill_suffixes-requires-clause-last
fill_suffixes-requires-clause-last g c =
    let G = grammar_of c.args.self.now in
    let w = right_of (G.slot c.args.s) in
    λ p e. let h : length w ≤ p + 1 = omega (arith, c.length-n.ensures) in end_last G w p h

pub returns-clause-done : goal.returns-clause-done
returns-clause-done g c =
    let x = c.args.self.now in
    let z = c.fill_suffixes.new.self in
    let f = g.met.G.Grammar.implements x.grammar.now in
    let e = c.prefix_end-end.result in
    let got = c.fill_suffixes.ensures in
    let far = read_back c.view.ensures (λ h l t. e < length (right_of ((g.G.Grammar.meaning h).slot c.args.s))) c.prefix_end-end.ensures.far in
    let before = read_back c.view.ensures (λ h l t. Nullable (g.G.Grammar.meaning h) (take e (right_of ((g.G.Grammar.meaning h).slot c.args.s)))) c.prefix_end-end.ensures.before in
    let d = rest_done f.limits c.fill_suffixes.result c.args.s e c.length-n.result c.requires.inside x.ready.short c.requires.prefixes got.stays.keeps far before c.length-n.ensures
    (unless_over (grammar_of x) x.length c.fill_suffixes.result (λ d q o l. right_back got.stays (d q o l)) got.done) in
    unless_over (grammar_of x) x.length c.fill_suffixes.result
    (λ d. onward got.stays (λ h l n. (q : ℕ) → RowOf (g.G.Grammar.meaning h) (Suffix c.args.s q) → Correct (g.G.Grammar.meaning h) l.bound z.cells.now (Suffix c.args.s q) n) (λ q o. d q o.1)) d
