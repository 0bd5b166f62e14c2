use Rattle.std.proofs.Common.{◌≡◌, ℕ, ◌<◌, true, eqb, length, take, Some, None, Option, sym, ap, ◌∙◌, subst, arith}
use Rattle.std.specs.Option.{option_eq}
use Rattle.std.proofs.lemmas.Bool.{eqb-true}
use Rattle.theory.specs.Sets.{Nullable}
use Rattle.theory.specs.Count.{right_of}
use Rattle.grammar.proofs.Derived.{ll1_of}
use Rattle.table.specs.Filling.{NeedsNoRest, LeadingCorrect, PrefixCorrectOf}
use Rattle.table.specs.FillingOf.{grammar_of, bound_of}
use Rattle.table.proofs.Prefix.{firsts_of, leaders_of, leaders_zero, prefix_done}
use Rattle.table.proofs.Stays.{onward, right_back, unless_over, read_back, read_on}
use Rattle.table.proofs.filling.Filling.fill_prefix.Goals as goal

-- what equals a value is that value
is_some_of : (o : Option ℕ) (a : ℕ) → true ≡ option_eq eqb o (Some a) → o ≡ Some a
is_some_of None a e = let z : ◌≡◌ {A = ℕ} 0 1 = cc in absurd (omega arith)
is_some_of (Some b) a e = ap Some (eqb-true b a (sym e))

pub prefix_end-end-requires-clause-leaders : goal.prefix_end-end-requires-clause-leaders
prefix_end-end-requires-clause-leaders g c =
    let x = c.args.self.now in
    let f = g.met.G.Grammar.implements x.grammar.now in
    let left = sym c.left.ensures ∙ is_some_of c.left.result c.args.a c.if-eq.ensures in
    let h = leaders_zero f.limits x.ready.below c.args.s (leaders_of f.limits c.args.a x.length c.args.s c.requires.corners left) in
    read_on c.view.ensures (λ h l t. LeadingCorrect (g.G.Grammar.meaning h) l.bound t (right_of ((g.G.Grammar.meaning h).slot c.args.s)) 0) h

pub fill_suffixes-requires-clause-firsts : goal.fill_suffixes-requires-clause-firsts
fill_suffixes-requires-clause-firsts g c =
    let x = c.args.self.now in
    let G = grammar_of x in
    let f = g.met.G.Grammar.implements x.grammar.now in
    let left = sym c.left.ensures ∙ is_some_of c.left.result c.args.a c.if-eq.ensures in
    let e = c.prefix_end-end.result in
    let before = read_back c.view.ensures (λ h l t. Nullable (g.G.Grammar.meaning h) (take e (right_of ((g.G.Grammar.meaning h).slot c.args.s)))) c.prefix_end-end.ensures.before in
    firsts_of G (bound_of x) x.cells.now (right_of (G.slot c.args.s)) e x.length before (leaders_of f.limits c.args.a x.length c.args.s c.requires.corners left)

pub fill_suffixes-requires-clause-last : goal.fill_suffixes-requires-clause-last
fill_suffixes-requires-clause-last g c =
    let G = grammar_of c.args.self.now in
    let e = c.prefix_end-end.result in
    let last = read_back c.view.ensures (λ h l t. NeedsNoRest (g.G.Grammar.meaning h) (right_of ((g.G.Grammar.meaning h).slot c.args.s)) e) c.prefix_end-end.ensures.last in
    λ p i. let q : e ≡ p = omega arith in subst (λ (n : ℕ). NeedsNoRest G (right_of (G.slot c.args.s)) n) q last

pub returns-then-length-gt0-clause-done : goal.returns-then-length-gt0-clause-done
returns-then-length-gt0-clause-done g c =
    let x = c.args.self.now in
    let z = c.fill_suffixes.new.self in
    let f = g.met.G.Grammar.implements x.grammar.now in
    let e = c.prefix_end-end.result in
    let got = c.fill_suffixes.ensures in
    let far = read_back c.view.ensures (λ h l t. e < length (right_of ((g.G.Grammar.meaning h).slot c.args.s))) c.prefix_end-end.ensures.far in
    let last = read_back c.view.ensures (λ h l t. NeedsNoRest (g.G.Grammar.meaning h) (right_of ((g.G.Grammar.meaning h).slot c.args.s)) e) c.prefix_end-end.ensures.last in
    let d = prefix_done (ll1_of f) (bound_of x) z.cells.now c.args.a x.length c.fill_suffixes.result c.args.s e far last
    (unless_over (grammar_of x) x.length c.fill_suffixes.result (λ d q o l. right_back got.stays (d q o l)) got.done) in
    unless_over (grammar_of x) x.length c.fill_suffixes.result (λ d. onward got.stays (λ h l n. PrefixCorrectOf (g.G.Grammar.meaning h) l.bound z.cells.now c.args.a n c.args.s) d) d
