-- The writing of a sentence, token by token. Assumes nothing.
use Rattle.std.proofs.Common.{◌≡◌, ℕ, ◌+◌, ◌<◌, ◌≤◌, ◌≢◌, List, [], ◌∷◌, ◌++◌, length, take, set, sym, refl, ap, ◌∙◌, append_assoc, append-nil, arith, length-set}
use Rattle.std.proofs.lemmas.List.{take_more_set, get_or-set_other}
use Rattle.table.specs.Calls.{SamePast}

-- so many tokens of the sentence w of length n are written, and the others are still to come
pub record Writing (n : ℕ) (w before to_come output : List ℕ) (written : ℕ) : Type 0 where
  pub says : take written output ++ to_come ≡ w
  pub sum : written + length to_come ≡ n
  pub rest : SamePast n before output

-- nothing is written
pub none_written : {n : ℕ} {w : List ℕ} (before to_come : List ℕ) → length w ≡ n → to_come ≡ w → Writing n w before to_come before 0
none_written before to_come l e = record { says = e; sum = omega (arith, ap length e, l); rest = (refl, λ i h. refl) }

module _ {n written : ℕ} {w before to_come output : List ℕ} (st : Writing n w before to_come output written) where
  -- all is written
  pub all_written : to_come ≡ [] → (take n output ≡ w) × SamePast n before output
  all_written none =
      let e : n ≡ written = omega (arith, st.sum, ap length none) in (
        ap (λ (i : ℕ). take i output) e ∙ sym (append-nil (take written output)) ∙ ap {B = List ℕ} (λ (ts : List ℕ). take written output ++ ts) (sym none) ∙ st.says,
        st.rest,
      )

  module _ {t : ℕ} {ts : List ℕ} (first : to_come ≡ t ∷ ts) (enough : n ≤ length before) where
    -- there is room for the next token
    pub token_room : written < length output
    token_room = omega (arith, st.sum, ap length first, st.rest.0)

    -- it is written
    pub token_written : Writing n w before ts (set output written t) (written + 1)
    token_written = record {
      says =
          ap {B = List ℕ} (λ (u : List ℕ). u ++ ts) (take_more_set output written t token_room)
          ∙ append_assoc (take written output) (t ∷ []) ts
          ∙ ap {B = List ℕ} (λ (u : List ℕ). take written output ++ u) (sym first)
          ∙ st.says;
      sum = omega (arith, st.sum, ap length first);
      rest = (
        length-set output written t ∙ st.rest.0,
        λ k l.
            let ne : k ≢ written = omega (arith, st.sum, ap length first) in
            get_or-set_other output written k t 0 ne ∙ st.rest.1 k l,
      );
    }
