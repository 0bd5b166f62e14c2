-- What a command leaves as it was. Assumes nothing.
use Rattle.std.proofs.Common.{◌≡◌, ℕ, ◌≤◌, List, length, refl, ap, ◌∙◌, arith}
use Rattle.std.specs.Prelude.{Vec, vec_items}
use Rattle.std.specs.Vec.{with_items}
use Rattle.std.specs.declared.alloc.Global.{Global}
use Rattle.std.proofs.lemmas.List.{with_items_is}
use mathlib.Core.HLevel.{is_prop→PathP}
use native.Mathlib.Nat.{ℕ_set}
use native.Mathlib.Bridge.{le_prop}
use Rattle.brackets.specs.declared.Brackets.{Brackets}
use Rattle.restriction.specs.declared.Restriction.{Restriction}
use Rattle.start_change.specs.declared.StartChange.{StartChange}
use Rattle.script.specs.declared.Command.{Command}
use Rattle.session.specs.Runs.{Asks, Runs, asks, session_grammar, session_choice, SameMemory}
use Rattle.session.specs.declared.answer.Answer.{Answer}
use Rattle.session.specs.declared.state.Session.{Session}

-- a `Vec` with its own elements written is that `Vec`
pub same_cells : (v : Vec ℕ Global) (xs : List ℕ) → xs ≡ vec_items v → with_items v xs ≡ v
same_cells v xs e =
    let long = v.ok.0 in
    let l = ap length e in
    let same = with_items_is v xs (omega arith) ∙ e in
    λ i. record {
      ptr = v.ptr;
      len = v.len;
      cap = v.cap;
      alloc = v.alloc;
      items = same i;
      ok = is_prop→PathP (λ j. (v.len ≡ length (same j)) × (v.len ≤ v.cap)) (λ j x y k. (ℕ_set _ _ x.0 y.0 k, le_prop x.1 y.1 k)) (with_items v xs).ok v.ok i;
      small = v.small;
    }

-- a command that changes the pile alone leaves the memory
pub same_memory : (s : Session Brackets) (pile : StartChange (Restriction Brackets)) → SameMemory s (record s { pile = pile })
same_memory s pile = record { cells = refl; amounts = record { stack = refl; output = refl; bound = refl } }

-- a command that leaves all but the cells
pub asked : (s : Session Brackets) (cells : Vec ℕ Global) {c : Command} {a : Answer} → Asks (session_grammar s) (session_choice s) (λ A. 0) s.bound (vec_items s.cells) (vec_items cells) c a
    → Runs s (record s { cells = cells }) c a
asked s cells {c} {a} h = asks c a (record { kinds = refl; mask = refl; start = refl }) (record { stack = refl; output = refl; bound = refl }) h

-- a command that writes the cells through a slice of them
pub asked_in : (s : Session Brackets) {before after : List ℕ} {c : Command} {a : Answer} → before ≡ vec_items s.cells → length after ≡ length before
    → Asks (session_grammar s) (session_choice s) (λ A. 0) s.bound before after c a → Runs s (record s { cells = with_items s.cells after }) c a
asked_in s {before} {after} {c} {a} e l h =
    let long = s.cells.ok.0 in
    let n = ap length e in
    asked s (with_items s.cells after) (rw (with_items_is s.cells after (omega arith)) (rw e at h))
