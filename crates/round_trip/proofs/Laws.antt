-- Expanding and numbering undo each other: both speak of one rank, and ranks number the sentences. Assumes nothing.
use Rattle.std.proofs.Common.{◌≡◌, ℕ, ◌+◌, ◌*◌, true, length, take, is_ok, Ok, Err, Option, Result, sym, refl, ap, ◌∙◌, arith}
use Rattle.fault.specs.declared.Fault.{Fault}
use Rattle.theory.specs.Grammar.{Cfg}
use Rattle.theory.specs.Sets.{Next}
use Rattle.theory.specs.Order.{ascending}
use Rattle.theory.proofs.Members.{exactly_unique}
use Rattle.theory.proofs.Ascending.{ascending_lists}
use Rattle.theory.proofs.Listing.{sentences_exactly, place_rank}
use Rattle.grammar.specs.Interface.{Implements}
use Rattle.grammar.proofs.Derived.{ll1_of}
use Rattle.expanding.specs.Calls.{ExpandAnswer}
use Rattle.numbering.specs.Calls.{NumberAnswer}
use Rattle.round_trip.specs.Laws.{NumberingUndoesExpanding, ExpandingUndoesNumbering}

-- numbering undoes expanding
pub numbering_undoes : {G : Cfg} {chosen : ℕ → Next → Option ℕ} {level : ℕ → ℕ} → Implements G chosen level → NumberingUndoesExpanding G chosen
numbering_undoes {G} {chosen} im L cells n k stack before after x entries r enough a =
    let u = x.answer.0.sufficient in
    let w = x.answer.1 in
    go r a
    (a.exactly.1 (
      record {
        sufficient = record {
          room = u.room;
          short = omega (arith, u.short, w.long);
          stack = omega (arith, ap (λ (m : ℕ). (m + 1) * G.nonterminals) w.long);
          output = tt;
        };
        sound = x.answer.0.sound;
      },
      w.ranked.0,
    ))
  where
    go : (q : Result ℕ Fault) → NumberAnswer G chosen L cells entries (take n after) q → is_ok q ≡ true → q ≡ Ok k
    go (Ok j) b h = ap Ok (exactly_unique j k b.answer.1.1 x.answer.1.ranked.1)
    go (Err f) b h = let z : ◌≡◌ {A = ℕ} 0 1 = cc in absurd (omega arith)

-- expanding undoes numbering
pub expanding_undoes : {G : Cfg} {chosen : ℕ → Next → Option ℕ} {level : ℕ → ℕ} → Implements G chosen level → ExpandingUndoesNumbering G chosen
expanding_undoes {G} {chosen} im L cells entries tokens k a stack before after r enough room x =
    let ll = ll1_of im in
    let u = a.answer.0.sufficient in
    let rank = a.answer.1 in
    let below = place_rank ll ascending_lists G.start (length tokens) k tokens (rank.0, refl) rank in
    go r x
    (x.exactly.1 (
      record {
        sufficient = record { room = u.room; short = u.short; stack = enough; output = room };
        sound = a.answer.0.sound;
      },
      record { count = _; counts = sentences_exactly ll ascending_lists G.start (length tokens); below = below.0 },
    ))
  where
    go : (q : Result (Unit {0}) Fault) → ExpandAnswer ascending G L cells (length tokens) k stack before after q → is_ok q ≡ true → (q ≡ Ok tt) × (take (length tokens) after ≡ tokens)
    go (Ok v) b h =
        let w = b.answer.1 in
        let ll = ll1_of im in
        let rank = a.answer.1 in
        let one = place_rank ll ascending_lists G.start (length tokens) k tokens (rank.0, refl) rank in
        let two = place_rank ll ascending_lists G.start (length tokens) k (take (length tokens) after) (w.ranked.0, w.long) w.ranked in
        (refl, sym two.1 ∙ one.1)
    go (Err f) b h = let z : ◌≡◌ {A = ℕ} 0 1 = cc in absurd (omega arith)
