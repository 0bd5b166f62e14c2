use Rattle.std.proofs.Common.{◌≡◌, ℕ, ◌<◌, ◌≤◌, get_or, drop}
use Rattle.script.specs.Says.{max_u64}
use Rattle.script.specs.Text.{Digit, decimal_after}
use Rattle.script.proofs.number.number.Given as goal

abbrev pub invariant-loop-byte : goal.invariant-loop-byte
invariant-loop-byte l = record {
  digits : (k : ℕ) → k < l.byte-index → Digit (get_or l.word k 0);
  value : decimal_after l.value (drop l.byte-index l.word) ≡ decimal_after 0 l.word;
  fits : l.value ≤ max_u64;
}
