-- What sentential forms say of derivations and of the smallest sets. Assumes nothing.
use Rattle.std.proofs.Common.{◌≡◌, ℕ, ◌⊎◌, List, [], ◌∷◌, ◌++◌, map, sym, refl, ap, ◌∙◌, subst, inl, inr, append_assoc, append-nil}
use Rattle.std.proofs.lemmas.List.{map-append}
use Rattle.theory.specs.Grammar.{Symbol, terminal, nonterminal, Cfg, RuleAt, Derives, done, read, expand}
use Rattle.theory.specs.Sets.{Nullable, none, next, First, itself, inside, behind, Follow, from_first, from_left, Leads, at_front, past, LeftCorner, Reaches, one_step, more}
use Rattle.theory.specs.Forms.{Rewrites, stop, step, RewritesAtLeastOnce}

-- one rewriting after another
pub rewrites_trans : {G : Cfg} {Xs Ys Zs : List Symbol} → Rewrites G Xs Ys → Rewrites G Ys Zs → Rewrites G Xs Zs
rewrites_trans {G} {Zs = Zs} (stop e) k = subst (λ (Ws : List Symbol). Rewrites G Ws Zs) (sym e) k
rewrites_trans (step s A Ys P Q h e r) k = step s A Ys P Q h e (rewrites_trans r k)

-- the symbols before Rs are rewritten
pub rewrites_left : {G : Cfg} {Xs Zs : List Symbol} → Rewrites G Xs Zs → (Rs : List Symbol) → Rewrites G (Xs ++ Rs) (Zs ++ Rs)
rewrites_left (stop e) Rs = stop (ap {B = List Symbol} (λ (Ws : List Symbol). Ws ++ Rs) e)
rewrites_left {G} {Zs = Zs} (step s A Ys P Q h e r) Rs =
    let q : (P ++ (Ys ++ Q)) ++ Rs ≡ P ++ (Ys ++ (Q ++ Rs)) = simp append_assoc in
    step s A Ys P (Q ++ Rs) h (ap {B = List Symbol} (λ (Ws : List Symbol). Ws ++ Rs) e ∙ append_assoc P (nonterminal A ∷ Q) Rs)
    (subst (λ (Ws : List Symbol). Rewrites G Ws (Zs ++ Rs)) q (rewrites_left r Rs))

-- the symbols after Rs are rewritten
pub rewrites_right : {G : Cfg} {Xs Zs : List Symbol} (Rs : List Symbol) → Rewrites G Xs Zs → Rewrites G (Rs ++ Xs) (Rs ++ Zs)
rewrites_right Rs (stop e) = stop (ap {B = List Symbol} (λ (Ws : List Symbol). Rs ++ Ws) e)
rewrites_right {G} {Zs = Zs} Rs (step s A Ys P Q h e r) =
    step s A Ys (Rs ++ P) Q h (ap {B = List Symbol} (λ (Ws : List Symbol). Rs ++ Ws) e ∙ sym (append_assoc Rs P (nonterminal A ∷ Q)))
    (subst (λ (Ws : List Symbol). Rewrites G Ws (Rs ++ Zs)) (sym (append_assoc Rs P (Ys ++ Q))) (rewrites_right Rs r))

-- the first symbol is replaced
pub rewrites_front : {G : Cfg} {A : ℕ} {Q Zs : List Symbol} (s : ℕ) (Ys : List Symbol) → RuleAt G s A Ys → Rewrites G (Ys ++ Q) Zs
    → Rewrites G (nonterminal A ∷ Q) Zs
rewrites_front {A = A} {Q} s Ys h r = step s A Ys [] Q h refl r

-- symbols rewrite to what they derive
pub derives_rewrites : {G : Cfg} {Xs : List Symbol} {w : List ℕ} → Derives G Xs w → Rewrites G Xs (map terminal w)
derives_rewrites done = stop refl
derives_rewrites {G} (read {t} {a} {Xs} {w} p d) =
    subst (λ (b : ℕ). Rewrites G (terminal b ∷ Xs) (terminal a ∷ map terminal w)) p (rewrites_right (terminal a ∷ []) (derives_rewrites d))
derives_rewrites {G} (expand {Xs = Xs} s Ys u v h e d₁ d₂) =
    rewrites_front s Ys h
    (subst (λ (Ws : List Symbol). Rewrites G (Ys ++ Xs) Ws) (sym (ap (map terminal) e ∙ map-append terminal u v))
    (rewrites_trans (rewrites_left (derives_rewrites d₁) Xs) (rewrites_right (map terminal u) (derives_rewrites d₂))))

-- terminals derive themselves
derives_terminals : {G : Cfg} (w : List ℕ) → Derives G (map terminal w) w
derives_terminals [] = done
derives_terminals (a ∷ w) = read refl (derives_terminals w)

-- a token list derived from two lists of symbols in a row, cut between them
record Split (G : Cfg) (Xs Ys : List Symbol) (w : List ℕ) : Type 0 where
  pub front : List ℕ
  pub back : List ℕ
  pub is : w ≡ front ++ back
  pub front_derived : Derives G Xs front
  pub back_derived : Derives G Ys back

-- what two lists of symbols in a row derive can be cut
derives_split : {G : Cfg} (Xs Ys : List Symbol) {w : List ℕ} → Derives G (Xs ++ Ys) w → Split G Xs Ys w
derives_split [] Ys {w} d = record { front = []; back = w; is = refl; front_derived = done; back_derived = d }
derives_split (terminal t ∷ Xs) Ys (read {a = a} p d) =
    let r = derives_split Xs Ys d in
    record {
      front = a ∷ r.front;
      back = r.back;
      is = ap {B = List ℕ} (λ (y : List ℕ). a ∷ y) r.is;
      front_derived = read p r.front_derived;
      back_derived = r.back_derived;
    }
derives_split (nonterminal A ∷ Xs) Ys (expand s Zs u v h e d₁ d₂) =
    let r = derives_split Xs Ys d₂ in
    record {
      front = u ++ r.front;
      back = r.back;
      is = e ∙ ap {B = List ℕ} (λ (y : List ℕ). u ++ y) r.is ∙ sym (append_assoc u r.front r.back);
      front_derived = expand s Zs u r.front h refl d₁ r.front_derived;
      back_derived = r.back_derived;
    }

module _ {G : Cfg} (s A : ℕ) (Ys : List Symbol) (h : RuleAt G s A Ys) where
  -- what is derived after a step is derived before it
  pub derives_back : (P Q : List Symbol) {w : List ℕ} → Derives G (P ++ (Ys ++ Q)) w → Derives G (P ++ (nonterminal A ∷ Q)) w
  derives_back [] Q d = let r = derives_split Ys Q d in expand s Ys r.front r.back h r.is r.front_derived r.back_derived
  derives_back (terminal t ∷ P) Q (read p d) = read p (derives_back P Q d)
  derives_back (nonterminal B ∷ P) Q (expand s' Zs u v h' e d₁ d₂) = expand s' Zs u v h' e d₁ (derives_back P Q d₂)

-- symbols derive the token lists that they rewrite to
pub rewrites_derives : {G : Cfg} {Xs Zs : List Symbol} → Rewrites G Xs Zs → (w : List ℕ) → Zs ≡ map terminal w → Derives G Xs w
rewrites_derives {G} (stop e) w q = subst (λ (Ws : List Symbol). Derives G Ws w) (sym (e ∙ q)) (derives_terminals w)
rewrites_derives {G} (step s A Ys P Q h e r) w q =
    subst (λ (Ws : List Symbol). Derives G Ws w) (sym e) (derives_back s A Ys h P Q (rewrites_derives r w q))

-- nullable symbols derive the empty list
pub nullable_derives : {G : Cfg} {Xs : List Symbol} → Nullable G Xs → Derives G Xs []
nullable_derives none = done
nullable_derives (next s Ys h n m) = expand s Ys [] [] h refl (nullable_derives n) (nullable_derives m)

-- and rewrite to it
pub nullable_rewrites : {G : Cfg} {Xs : List Symbol} → Nullable G Xs → Rewrites G Xs []
nullable_rewrites n = derives_rewrites (nullable_derives n)

-- a nullable nonterminal before nullable symbols
nullable_both : {G : Cfg} {A : ℕ} {Xs : List Symbol} → Nullable G (nonterminal A ∷ []) → Nullable G Xs → Nullable G (nonterminal A ∷ Xs)
nullable_both (next s Ys h n none) m = next s Ys h n m

-- symbols rewrite to a form that begins with any terminal of their FIRST
pub first_rewrites : {G : Cfg} {Xs : List Symbol} {a : ℕ} → First G Xs a → (Zs : List Symbol) × Rewrites G Xs (terminal a ∷ Zs)
first_rewrites (itself {Xs = Xs} e) = (Xs, stop (ap {B = List Symbol} (λ (b : ℕ). terminal b ∷ Xs) (sym e)))
first_rewrites (inside {Xs = Xs} s Ys h f) = let r = first_rewrites f in (r.0 ++ Xs, rewrites_front s Ys h (rewrites_left r.1 Xs))
first_rewrites (behind {Xs = Xs} n f) = let r = first_rewrites f in (r.0, rewrites_trans (rewrites_left (nullable_rewrites n) Xs) r.1)

-- FIRST of two lists of symbols in a row
first_split : {G : Cfg} {a : ℕ} (Xs Ys : List Symbol) → First G (Xs ++ Ys) a → First G Xs a ⊎ (Nullable G Xs × First G Ys a)
first_split [] Ys f = inr (none, f)
first_split (terminal t ∷ Xs) Ys (itself e) = inl (itself e)
first_split (nonterminal A ∷ Xs) Ys (inside s Zs h f) = inl (inside s Zs h f)
first_split {G} {a} (nonterminal A ∷ Xs) Ys (behind n f) = go (first_split Xs Ys f)
  where
    go : First G Xs a ⊎ (Nullable G Xs × First G Ys a) → First G (nonterminal A ∷ Xs) a ⊎ (Nullable G (nonterminal A ∷ Xs) × First G Ys a)
    go (inl k) = inl (behind n k)
    go (inr k) = inr (nullable_both n k.0, k.1)

module _ {G : Cfg} (s A : ℕ) (Ys : List Symbol) (h : RuleAt G s A Ys) where
  -- what is in FIRST after a step is in FIRST before it
  first_back : {a : ℕ} (P Q : List Symbol) → First G (P ++ (Ys ++ Q)) a → First G (P ++ (nonterminal A ∷ Q)) a
  first_back {a} [] Q f = go (first_split Ys Q f)
    where
      go : First G Ys a ⊎ (Nullable G Ys × First G Q a) → First G (nonterminal A ∷ Q) a
      go (inl k) = inside s Ys h k
      go (inr k) = behind (next s Ys h k.0 none) k.1
  first_back (terminal t ∷ P) Q (itself e) = itself e
  first_back (nonterminal B ∷ P) Q (inside s' Zs h' f) = inside s' Zs h' f
  first_back (nonterminal B ∷ P) Q (behind n f) = behind n (first_back P Q f)

-- the first terminal of a form is in FIRST
pub rewrites_first : {G : Cfg} {Xs Zs : List Symbol} → Rewrites G Xs Zs → (a : ℕ) (Ws : List Symbol) → Zs ≡ terminal a ∷ Ws → First G Xs a
rewrites_first {G} (stop e) a Ws q = subst (λ (Vs : List Symbol). First G Vs a) (sym (e ∙ q)) (itself refl)
rewrites_first {G} (step s A Ys P Q h e r) a Ws q =
    subst (λ (Vs : List Symbol). First G Vs a) (sym e) (first_back s A Ys h P Q (rewrites_first r a Ws q))

-- some nonterminal rewrites to a form in which a stands right after B
abbrev pub Adjacent : Cfg → ℕ → ℕ → Type 0
Adjacent G B a = (A : ℕ) × (P : List Symbol) × (Q : List Symbol) × Rewrites G (nonterminal A ∷ []) (P ++ (nonterminal B ∷ terminal a ∷ Q))

-- a terminal of FOLLOW stands right after the nonterminal in some form
pub follow_rewrites : {G : Cfg} {B a : ℕ} → Follow G B a → Adjacent G B a
follow_rewrites {G} {B} {a} (from_first s A Ys P Q h e f) =
    let r = first_rewrites f in (
      A,
      P,
      r.0,
      rewrites_front s Ys h
          (subst (λ (Ws : List Symbol). Rewrites G Ws (P ++ (nonterminal B ∷ terminal a ∷ r.0))) (sym (append-nil Ys ∙ e))
          (rewrites_right P (rewrites_right (nonterminal B ∷ []) r.1))),
    )
follow_rewrites {G} {B} {a} (from_left s A Ys P Q h e n f) =
    let k = follow_rewrites f in
    let T = terminal a ∷ k.2 in
    let q : Ys ++ T ≡ P ++ (nonterminal B ∷ (Q ++ T)) = ap {B = List Symbol} (λ (Ws : List Symbol). Ws ++ T) e ∙ append_assoc P (nonterminal B ∷ Q) T in
    let r = rewrites_right P (rewrites_right (nonterminal B ∷ []) (rewrites_left (nullable_rewrites n) T)) in (
      k.0,
      k.1 ++ P,
      k.2,
      subst (λ (Ws : List Symbol). Rewrites G (nonterminal k.0 ∷ []) Ws) (sym (append_assoc k.1 P (nonterminal B ∷ T)))
          (rewrites_trans k.3
          (step s A Ys k.1 T h refl
          (rewrites_right k.1 (subst (λ (Ws : List Symbol). Rewrites G Ws (P ++ (nonterminal B ∷ T))) (sym q) r)))),
    )

-- FIRST of what stands after a nonterminal is in its FOLLOW, at each nonterminal of the form
abbrev Followed : Cfg → List Symbol → Type 0
Followed G [] = Unit {0}
Followed G (terminal t ∷ Xs) = Followed G Xs
Followed G (nonterminal B ∷ Xs) = ((a : ℕ) → First G Xs a → Follow G B a) × Followed G Xs

module _ (G : Cfg) (s A : ℕ) (Ys : List Symbol) (h : RuleAt G s A Ys) where
  -- this holds of the end of a right-hand side that replaces a nonterminal
  followed_side : (P Rs Q : List Symbol) → Ys ≡ P ++ Rs → Followed G (nonterminal A ∷ Q) → Followed G (Rs ++ Q)
  followed_side P [] Q e k = k.1
  followed_side P (terminal t ∷ Rs) Q e k = followed_side (P ++ (terminal t ∷ [])) Rs Q (e ∙ sym (append_assoc P (terminal t ∷ []) Rs)) k
  followed_side P (nonterminal B ∷ Rs) Q e k =
      (λ a f. go a (first_split Rs Q f), followed_side (P ++ (nonterminal B ∷ [])) Rs Q (e ∙ sym (append_assoc P (nonterminal B ∷ []) Rs)) k)
    where
      go : (a : ℕ) → First G Rs a ⊎ (Nullable G Rs × First G Q a) → Follow G B a
      go a (inl f) = from_first s A Ys P Rs h e f
      go a (inr f) = from_left s A Ys P Rs h e f.0 (k.0 a f.1)

  -- and of the form after a step
  followed_step : (P Q : List Symbol) → Followed G (P ++ (nonterminal A ∷ Q)) → Followed G (P ++ (Ys ++ Q))
  followed_step [] Q k = followed_side [] Ys Q refl k
  followed_step (terminal t ∷ P) Q k = followed_step P Q k
  followed_step (nonterminal B ∷ P) Q k = (λ a f. k.0 a (first_back s A Ys h P Q f), followed_step P Q k.1)

-- and of each form
followed_form : {G : Cfg} {Xs Zs : List Symbol} → Rewrites G Xs Zs → Followed G Xs → Followed G Zs
followed_form {G} (stop e) k = subst (λ (Ws : List Symbol). Followed G Ws) e k
followed_form {G} (step s A Ys P Q h e r) k = followed_form r (followed_step G s A Ys h P Q (subst (λ (Ws : List Symbol). Followed G Ws) e k))

-- so a terminal right after a nonterminal is in its FOLLOW
followed_at : {G : Cfg} (B a : ℕ) (P Q : List Symbol) → Followed G (P ++ (nonterminal B ∷ terminal a ∷ Q)) → Follow G B a
followed_at B a [] Q k = k.0 a (itself refl)
followed_at B a (terminal t ∷ P) Q k = followed_at B a P Q k
followed_at B a (nonterminal C ∷ P) Q k = followed_at B a P Q k.1

-- a terminal that stands right after a nonterminal in some form is in its FOLLOW
pub rewrites_follow : {G : Cfg} (B a : ℕ) → Adjacent G B a → Follow G B a
rewrites_follow {G} B a k = followed_at B a k.1 k.2 (followed_form k.3 (λ b f. none_first b f, tt))
  where
    none_first : (b : ℕ) → First G [] b → Follow G k.0 b
    none_first b f = elim f [ ]

-- symbols rewrite to a form that begins with a nonterminal that leads them
leads_rewrites : {G : Cfg} {Xs : List Symbol} {B : ℕ} → Leads G Xs B → (Zs : List Symbol) × Rewrites G Xs (nonterminal B ∷ Zs)
leads_rewrites (at_front {Xs = Xs} e) = (Xs, stop (ap {B = List Symbol} (λ (C : ℕ). nonterminal C ∷ Xs) e))
leads_rewrites (past {Xs = Xs} n l) = let r = leads_rewrites l in (r.0, rewrites_trans (rewrites_left (nullable_rewrites n) Xs) r.1)

-- a nonterminal rewrites to a form that begins with what its left corners lead to
pub reaches_rewrites : {G : Cfg} {A B : ℕ} → Reaches G A B → (Zs : List Symbol) × RewritesAtLeastOnce G A (nonterminal B ∷ Zs)
reaches_rewrites (one_step c) =
    let r = leads_rewrites c.leads in (r.0, record { slot = c.slot; side = c.side; holds = c.holds; rest = r.1 })
reaches_rewrites (more B c k) =
    let r = leads_rewrites c.leads in
    let i = reaches_rewrites k in
    let j = i.1 in (
      i.0 ++ r.0,
      record {
        slot = c.slot;
        side = c.side;
        holds = c.holds;
        rest = rewrites_trans r.1 (rewrites_front j.slot j.side j.holds (rewrites_left j.rest r.0));
      },
    )

-- what leads two lists of symbols in a row
leads_split : {G : Cfg} {B : ℕ} (Xs Ys : List Symbol) → Leads G (Xs ++ Ys) B → Leads G Xs B ⊎ (Nullable G Xs × Leads G Ys B)
leads_split [] Ys l = inr (none, l)
leads_split (nonterminal A ∷ Xs) Ys (at_front e) = inl (at_front e)
leads_split {G} {B} (nonterminal A ∷ Xs) Ys (past n l) = go (leads_split Xs Ys l)
  where
    go : Leads G Xs B ⊎ (Nullable G Xs × Leads G Ys B) → Leads G (nonterminal A ∷ Xs) B ⊎ (Nullable G (nonterminal A ∷ Xs) × Leads G Ys B)
    go (inl k) = inl (past n k)
    go (inr k) = inr (nullable_both n k.0, k.1)
leads_split (terminal t ∷ Xs) Ys l = elim l [ ]

module _ {G : Cfg} (s A : ℕ) (Ys : List Symbol) (h : RuleAt G s A Ys) where
  -- what leads after a step leads before it, or is a left corner of the nonterminal that is replaced, which leads
  leads_back : {C : ℕ} (P Q : List Symbol) → Leads G (P ++ (Ys ++ Q)) C
      → Leads G (P ++ (nonterminal A ∷ Q)) C ⊎ (Leads G (P ++ (nonterminal A ∷ Q)) A × LeftCorner G A C)
  leads_back {C} [] Q l = go (leads_split Ys Q l)
    where
      go : Leads G Ys C ⊎ (Nullable G Ys × Leads G Q C) → Leads G (nonterminal A ∷ Q) C ⊎ (Leads G (nonterminal A ∷ Q) A × LeftCorner G A C)
      go (inl k) = inr (at_front refl, record { slot = s; side = Ys; holds = h; leads = k })
      go (inr k) = inl (past (next s Ys h k.0 none) k.1)
  leads_back (terminal t ∷ P) Q l = elim l [ ]
  leads_back (nonterminal B ∷ P) Q (at_front e) = inl (at_front e)
  leads_back {C} (nonterminal B ∷ P) Q (past n l) = go (leads_back P Q l)
    where
      go : Leads G (P ++ (nonterminal A ∷ Q)) C ⊎ (Leads G (P ++ (nonterminal A ∷ Q)) A × LeftCorner G A C)
          → Leads G (nonterminal B ∷ (P ++ (nonterminal A ∷ Q))) C ⊎ (Leads G (nonterminal B ∷ (P ++ (nonterminal A ∷ Q))) A × LeftCorner G A C)
      go (inl k) = inl (past n k)
      go (inr k) = inr (past n k.0, k.1)

-- B leads the symbols, or left corners of a nonterminal that leads them lead to B
abbrev Begins : Cfg → List Symbol → ℕ → Type 0
Begins G Xs B = Leads G Xs B ⊎ ((C : ℕ) × Leads G Xs C × Reaches G C B)

module _ {G : Cfg} (s A : ℕ) (Ys : List Symbol) (h : RuleAt G s A Ys) where
  -- one more step before the others
  begins_back : (B : ℕ) (P Q : List Symbol) → Begins G (P ++ (Ys ++ Q)) B → Begins G (P ++ (nonterminal A ∷ Q)) B
  begins_back B P Q (inl l) = go (leads_back s A Ys h P Q l)
    where
      go : Leads G (P ++ (nonterminal A ∷ Q)) B ⊎ (Leads G (P ++ (nonterminal A ∷ Q)) A × LeftCorner G A B) → Begins G (P ++ (nonterminal A ∷ Q)) B
      go (inl k) = inl k
      go (inr k) = inr (A, k.0, one_step k.1)
  begins_back B P Q (inr l) = go (leads_back s A Ys h P Q l.1)
    where
      go : Leads G (P ++ (nonterminal A ∷ Q)) l.0 ⊎ (Leads G (P ++ (nonterminal A ∷ Q)) A × LeftCorner G A l.0) → Begins G (P ++ (nonterminal A ∷ Q)) B
      go (inl k) = inr (l.0, k, l.2)
      go (inr k) = inr (A, k.0, more l.0 k.1 l.2)

-- what a form begins with
rewrites_begins : {G : Cfg} {Xs Zs : List Symbol} → Rewrites G Xs Zs → (B : ℕ) (Ws : List Symbol) → Zs ≡ nonterminal B ∷ Ws → Begins G Xs B
rewrites_begins {G} (stop e) B Ws q = inl (subst (λ (Vs : List Symbol). Leads G Vs B) (sym (e ∙ q)) (at_front refl))
rewrites_begins {G} (step s A Ys P Q h e r) B Ws q =
    subst (λ (Vs : List Symbol). Begins G Vs B) (sym e) (begins_back s A Ys h B P Q (rewrites_begins r B Ws q))

-- left corners lead to what a form of one or more steps begins with
pub rewrites_reaches : {G : Cfg} (A B : ℕ) (Zs : List Symbol) → RewritesAtLeastOnce G A (nonterminal B ∷ Zs) → Reaches G A B
rewrites_reaches {G} A B Zs k = go (rewrites_begins k.rest B Zs refl)
  where
    go : Begins G k.side B → Reaches G A B
    go (inl l) = one_step (record { slot = k.slot; side = k.side; holds = k.holds; leads = l })
    go (inr l) = more l.0 (record { slot = k.slot; side = k.side; holds = k.holds; leads = l.1 }) l.2
