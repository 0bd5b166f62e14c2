-- What numbering answers, by how it ends.
use Rattle.std.proofs.Common.{◌≡◌, ℕ, List, length, Ok, Err, Result, refl, subst, MatchResult}
use Rattle.std.proofs.lemmas.Bool.{false≢true}
use Rattle.fault.specs.declared.Fault.{Fault}
use Rattle.theory.specs.Grammar.{Sentence}
use Rattle.theory.specs.Order.{ascending, Rank}
use Rattle.grammar.specs.Interface.{Implements}
use Rattle.grammar.specs.declared.Grammar.{Ghosts}
use Rattle.grammar.proofs.Derived.{ll1_of}
use Rattle.table.specs.Checked.{Usable}
use Rattle.table.specs.GrammarCountsOf.{grammar_of}
use Rattle.table.specs.declared.grammar_counts.GrammarCounts.{GrammarCounts}
use Rattle.table.proofs.Calls.{checked_answer}
use Rattle.parser.proofs.Sentences.{sentence_never_stops}
use Rattle.numbering.specs.Frames.{ParseAnswer}
use Rattle.numbering.specs.declared.parsing.Stopped.{Stopped}
use Rattle.numbering.specs.Calls.{lent_stack, NumberRefused, unusable, stopped, NumberAnswer}

-- a parse by counts of g parses by g
pub parsed : {T : Type 0} {members : Ghosts T} {g : T} (counts : GrammarCounts T members) → counts.grammar.now ≡ g → (tokens : List ℕ) (r : Result ℕ Stopped)
    → ParseAnswer ascending (grammar_of counts) (members.chosen counts.grammar.now) tokens r → ParseAnswer ascending (members.meaning g) (members.chosen g) tokens r
parsed {T} {members} counts e tokens r = subst (λ (x : T). ParseAnswer ascending (members.meaning x) (members.chosen x) tokens r) e

module _ {T : Type 0} (members : Ghosts T) (g : T) (im : Implements (members.meaning g) (members.chosen g) (members.levels g)) {L : ℕ} {cells : List ℕ} {entries : ℕ} {tokens : List ℕ} where
  -- a sentence is not refused where the table may be used
  not_refused : {f : Fault} → Usable (members.meaning g) L cells (length tokens) (lent_stack entries) → Sentence (members.meaning g) (members.meaning g).start tokens
      → NumberRefused (members.meaning g) (members.chosen g) L cells entries tokens f → ⊥
  not_refused {f} u d (unusable h) = false≢true ((checked_answer (ll1_of im) (Err f) h).exactly.1 u)
  not_refused u d (stopped gone o h) = sentence_never_stops im.choice d h

  -- numbering
  pub number_answer : (r : Result ℕ Fault)
      → MatchResult r (λ k. Usable (members.meaning g) L cells (length tokens) (lent_stack entries) × Rank (members.meaning g) ascending (members.meaning g).start tokens k)
      (NumberRefused (members.meaning g) (members.chosen g) L cells entries tokens)
      → NumberAnswer (members.meaning g) (members.chosen g) L cells entries tokens r
  number_answer (Ok k) h = record { answer = h; exactly = (λ e. (h.0, h.1.0), λ o. refl) }
  number_answer (Err f) h = record { answer = h; exactly = (λ e. absurd (false≢true e), λ o. absurd (not_refused o.0 o.1 h)) }
