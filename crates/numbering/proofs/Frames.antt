-- Where each step of a parse leads: a token goes, a frame is opened, a frame is closed, or the parse ends. Assumes nothing.
use Rattle.std.proofs.Common.{◌≡◌, ℕ, zero, suc, true, false, not, eqb, ◌+◌, ◌*◌, ◌<◌, ◌≤◌, List, [], ◌∷◌, ◌++◌, map, length, get_or, take, drop, set, Some, None, Option, sym, refl, ap, ◌∙◌, subst, ⊎_elim, append_assoc, append-nil, mul-le-mul_right, add-one, arith, length-append, length-set}
use Rattle.std.specs.List.{slice_get}
use Rattle.std.specs.Option.{option_eq}
use Rattle.std.proofs.lemmas.Bool.{cases_eq, cases_lt, eq-eqb, ne_eqb}
use Rattle.std.proofs.lemmas.List.{drop_all, drop_more, take_all, take_more, length-take-le}
use Rattle.theory.specs.Lists.{joined}
use Rattle.theory.specs.Grammar.{Symbol, terminal, nonterminal, Cfg}
use Rattle.theory.specs.Sets.{Next, token, next_of}
use Rattle.theory.specs.Order.{LengthOrder, ListsLengths, Rank}
use Rattle.theory.specs.Count.{left_of}
use Rattle.theory.proofs.Listing.{rank_at}
use Rattle.grammar.specs.Symbols.{symbol_at}
use Rattle.grammar.specs.declared.Symbol.TheVariants as value
use Rattle.grammar.specs.Interface.{next_of_lookahead, Implements}
use Rattle.grammar.proofs.Derived.{ll1_of}
use Rattle.table.proofs.Sides.{side_six}
use Rattle.walk.specs.Depth.{suffix_of, Chain, top, above}
use Rattle.walk.proofs.Depth.{begin_chain, pass_token, open_frame, close_frame, depth_bound, room}
use Rattle.walk.proofs.Measure.{further_falls, open_falls, close_falls}
use Rattle.parser.specs.Parser.{StopsAfter, tokens_left, other_token, no_choice}
use Rattle.parser.proofs.Steps.{ComesTo, comes_first, comes_match, comes_replace, comes_stop}
use Rattle.grammar.proofs.Symbols.{terminal_at, nonterminal_at, none_at}
use Rattle.numbering.specs.Parts.{blank_frame, begun, with_part, frame_side, PartOf, part_tokens, AllParts, all_tokens, WholePart}
use Rattle.numbering.specs.Frames.{place_of, suspended_place, places, frame_tokens, gone_tokens, symbols_below, symbols_left, FrameParts, StartLowest, ParseAt, Goes_on}
use Rattle.numbering.specs.declared.frame.Part.{Part}
use Rattle.numbering.specs.declared.frame.Frame.{Frame}

-- lists in a row, and one more
joined_more : (us : List (List ℕ)) (v : List ℕ) → joined (us ++ (v ∷ [])) ≡ joined us ++ v
joined_more [] v = append-nil v
joined_more (u ∷ us) v = ap {B = List ℕ} (λ (w : List ℕ). u ++ w) (joined_more us v) ∙ sym (append_assoc u (joined us) v)

-- the part of one more symbol
parts_more : (order : LengthOrder) (G : Cfg) (p : ℕ) (Ys : List Symbol) (ds : List Part) (X : Symbol) (Xs : List Symbol) (d : Part) → drop p Ys ≡ X ∷ Xs → p < length ds
    → AllParts order G (take p Ys) ds → PartOf order G X d
    → AllParts order G (take (suc p) Ys) (set ds p d) × (all_tokens order G (take (suc p) Ys) (set ds p d) ≡ all_tokens order G (take p Ys) ds ++ (part_tokens order G X d ∷ []))
parts_more order G p Ys [] X Xs d e l a o = absurd (omega arith)
parts_more order G zero [] (c ∷ ds) X Xs d e l a o = absurd (cc)
parts_more order G zero (Y ∷ Ys) (c ∷ ds) X Xs d e l a o =
    let i : X ≡ Y = cc in
    ((subst (λ (Z : Symbol). PartOf order G Z d) i o, tt), ap {B = List (List ℕ)} (λ (Z : Symbol). part_tokens order G Z d ∷ []) (sym i))
parts_more order G (suc p) [] (c ∷ ds) X Xs d e l a o = absurd (cc)
parts_more order G (suc p) (Y ∷ Ys) (c ∷ ds) X Xs d e l a o =
    let r = parts_more order G p Ys ds X Xs d e (omega arith) a.1 o in
    ((a.0, r.0), ap {B = List (List ℕ)} (λ (us : List (List ℕ)). part_tokens order G Y c ∷ us) r.1)

-- what is left behind the first that is left, in symbols
symbols_behind : (Ys : List Symbol) (p : ℕ) (X : Symbol) (Xs : List Symbol) → drop p Ys ≡ X ∷ Xs → p < length Ys
symbols_behind Ys p X Xs e =
    ⊎_elim
    (λ (l : p < length Ys). l)
    (λ l. let d = drop_all p Ys l in absurd (cc))
    (cases_lt p (length Ys))

-- the next token: it is there, and what is gone and left with it
record NextToken (tokens : List ℕ) (gone t : ℕ) : Type 0 where
  pub inside : gone < length tokens
  pub left : drop gone tokens ≡ t ∷ drop (gone + 1) tokens
  pub more : take (gone + 1) tokens ≡ take gone tokens ++ (t ∷ [])

next_token : (tokens : List ℕ) (gone t : ℕ) → next_of (drop gone tokens) ≡ token t → NextToken tokens gone t
next_token tokens gone t e =
    ⊎_elim
    (λ (l : gone < length tokens).
    let m = drop_more tokens gone 0 l in
    let n = ap next_of m in
    let i : get_or tokens gone 0 ≡ t = cc in
    record {
      inside = l;
      left = m ∙ ap {B = List ℕ} (λ (x : ℕ). x ∷ drop (gone + 1) tokens) i;
      more = take_more tokens gone 0 l ∙ ap {B = List ℕ} (λ (x : ℕ). take gone tokens ++ (x ∷ [])) i;
    })
    (λ l. let n = ap next_of (drop_all gone tokens l) in absurd (cc))
    (cases_lt gone (length tokens))

-- what comes next at the front
pub next_first : (ts : List ℕ) → next_of_lookahead (slice_get ts 0) ≡ next_of ts
next_first [] = refl
next_first (t ∷ ts) = refl

-- what comes next, by how it compares with a terminal
pub is_next : (o : Option ℕ) (t : ℕ) → false ≡ not (option_eq eqb o (Some t)) → next_of_lookahead o ≡ token t
is_next (Some x) t e = ⊎_elim (λ i. ap token i) (λ ne. absurd (cc (e, ne_eqb x t ne))) (cases_eq x t)
is_next None t e = absurd (cc)

pub not_next : (o : Option ℕ) (t : ℕ) → true ≡ not (option_eq eqb o (Some t)) → next_of_lookahead o ≡ token t → ⊥
not_next (Some x) t e h = let i : x ≡ t = cc in cc (e, eq-eqb x t i)
not_next None t e h = cc

-- the part of a terminal
abbrev pub token_part : Part
token_part = record { length = 1; rank = 0 }

-- the frame with one more part
frame_more : (order : LengthOrder) (G : Cfg) (f : Frame) (X : Symbol) (Xs : List Symbol) (d : Part) → length (frame_side G f) ≤ 6 → FrameParts order G f
    → suffix_of G (place_of f) ≡ X ∷ Xs → PartOf order G X d
    → FrameParts order G (with_part f d) × (frame_tokens order G (with_part f d) ≡ frame_tokens order G f ++ part_tokens order G X d)
frame_more order G f X Xs d short h e o =
    let l = symbols_behind (frame_side G f) f.position X Xs e in
    let r = parts_more order G f.position (frame_side G f) f.parts X Xs d e (omega (arith, h.six)) h.parts o in
    let one = add-one f.position in (
      record {
        six = length-set f.parts f.position d ∙ h.six;
        far = omega arith;
        parts = subst (λ (n : ℕ). AllParts order G (take n (frame_side G f)) (set f.parts f.position d)) (sym one) r.0;
      },
      ap {B = List ℕ} (λ (n : ℕ). joined (all_tokens order G (take n (frame_side G f)) (set f.parts f.position d))) one
          ∙ ap {B = List ℕ} joined r.1
          ∙ joined_more (all_tokens order G (take f.position (frame_side G f)) f.parts) (part_tokens order G X d),
    )

-- the lowest frame is in the same slot
lowest_same : (G : Cfg) (f g : Frame) (fs : List Frame) → g.slot ≡ f.slot → StartLowest G f fs → StartLowest G g fs
lowest_same G f g [] e h = ap {B = Option ℕ} (λ (s : ℕ). left_of (G.slot s)) e ∙ h
lowest_same G f g (b ∷ fs) e h = h

module _ {G : Cfg} {chosen : ℕ → Next → Option ℕ} {level : ℕ → ℕ} (im : Implements G chosen level) {order : LengthOrder} {tokens : List ℕ} where
  -- the parse begins with the chosen slot of the start
  pub first_frame : (s : ℕ) → chosen G.start (next_of tokens) ≡ Some s → ParseAt order G chosen level tokens (begun blank_frame s) [] 0
  first_frame s c =
      let own = im.choice.own G.start s (next_of tokens) c in
      record {
        reach = omega arith;
        lowest = own;
        frames = (record { six = refl; far = omega arith; parts = tt }, tt);
        chain = begin_chain (ll1_of im) s G.start own;
        read = refl;
        comes = comes_replace s comes_first c;
      }

  module _ {f : Frame} {fs : List Frame} {gone : ℕ} (at : ParseAt order G chosen level tokens f fs gone) where
    module _ {t : ℕ} (here : Some (value.Terminal t) ≡ symbol_at (frame_side G f) f.position) where
      rest : suffix_of G (place_of f) ≡ terminal t ∷ drop (f.position + 1) (frame_side G f)
      rest = rw add-one (terminal_at (frame_side G f) f.position t here)

      -- the position of the frame is one of an array of six
      pub position_low : f.position < 6
      position_low = omega (arith, symbols_behind (frame_side G f) f.position _ _ rest, side_six im.limits f.slot)

      -- all symbols that are left, the terminal first
      terminal_left : symbols_left G f fs ≡ terminal t ∷ symbols_left G (with_part f token_part) fs
      terminal_left = ap {B = List Symbol} (λ (Ys : List Symbol). Ys ++ symbols_below G fs) rest

      comes_here : ComesTo G chosen (nonterminal G.start ∷ []) tokens (terminal t ∷ symbols_left G (with_part f token_part) fs) (drop gone tokens) gone
      comes_here = rw (← terminal_left) at.comes

      -- the terminal goes with an equal token
      pub token_goes : (most : ℕ) → next_of (drop gone tokens) ≡ token t → Goes_on order G chosen level tokens most f fs (with_part f token_part) fs (gone + 1)
      token_goes most e =
          let n = next_token tokens gone t e in
          let comes : ComesTo G chosen (nonterminal G.start ∷ []) tokens (terminal t ∷ symbols_left G (with_part f token_part) fs) (t ∷ drop (gone + 1) tokens) gone =
          rw (← n.left) comes_here in
          let m = frame_more order G f (terminal t) _ token_part (side_six im.limits f.slot) at.frames.0 rest (omega arith) in
          record {
            at = record {
              reach = omega (arith, n.inside);
              lowest = lowest_same G f (with_part f token_part) fs refl at.lowest;
              frames = (m.0, at.frames.1);
              chain = pass_token (ll1_of im) (place_of f) (map suspended_place fs) gone at.chain;
              read =
                  ap {B = List ℕ} (λ (u : List ℕ). gone_tokens order G fs ++ u) m.1
                  ∙ sym (append_assoc (gone_tokens order G fs) (frame_tokens order G f) (t ∷ []))
                  ∙ ap {B = List ℕ} (λ (u : List ℕ). u ++ (t ∷ [])) at.read
                  ∙ sym n.more;
              comes = comes_match comes refl;
            };
            falls = further_falls G most (place_of f) (map suspended_place fs) (symbols_behind (frame_side G f) f.position (terminal t) _ rest);
          }

      -- where the next token is another, or there is none, the parse stops
      pub other_stops : (next_of (drop gone tokens) ≡ token t → ⊥) → StopsAfter G chosen (nonterminal G.start ∷ []) tokens gone
      other_stops h = comes_stop comes_here (other_token h)

    module _ {A : ℕ} (here : Some (value.Nonterminal A) ≡ symbol_at (frame_side G f) f.position) where
      behind : suffix_of G (place_of f) ≡ nonterminal A ∷ drop (f.position + 1) (frame_side G f)
      behind = rw add-one (nonterminal_at (frame_side G f) f.position A here)

      -- all symbols that are left, the nonterminal first
      nonterminal_left : symbols_left G f fs ≡ nonterminal A ∷ symbols_below G (f ∷ fs)
      nonterminal_left = ap {B = List Symbol} (λ (Ys : List Symbol). Ys ++ symbols_below G fs) behind

      comes_with : ComesTo G chosen (nonterminal G.start ∷ []) tokens (nonterminal A ∷ symbols_below G (f ∷ fs)) (drop gone tokens) gone
      comes_with = rw (← nonterminal_left) at.comes

      -- there is room for one more frame
      pub one_more_fits : (most : ℕ) → (length tokens + 1) * G.nonterminals ≤ most → length (places f fs) < most
      one_more_fits most enough =
          let l : gone + 1 ≤ length tokens + 1 = omega (arith, at.reach) in
          let p : (gone + 1) * G.nonterminals ≤ (length tokens + 1) * G.nonterminals = mul-le-mul_right G.nonterminals l in
          omega (arith, room (ll1_of im) (place_of f) (map suspended_place fs) gone A _ at.chain behind)

      -- a frame is opened for the slot that is chosen for the nonterminal
      pub frame_opens : (most : ℕ) → (length tokens + 1) * G.nonterminals ≤ most → (s : ℕ) → chosen A (next_of (drop gone tokens)) ≡ Some s
          → Goes_on order G chosen level tokens most f fs (begun f s) (f ∷ fs) gone
      frame_opens most enough s c =
          let own = im.choice.own A s (next_of (drop gone tokens)) c in
          record {
            at = record {
              reach = at.reach;
              lowest = at.lowest;
              frames = (record { six = at.frames.0.six; far = omega arith; parts = tt }, at.frames);
              chain = open_frame (ll1_of im) (place_of f) (map suspended_place fs) gone s A _ at.chain behind own;
              read = append-nil (gone_tokens order G (f ∷ fs)) ∙ at.read;
              comes = comes_replace s comes_with c;
            };
            falls = open_falls G most (place_of f) (map suspended_place fs) im.limits s (symbols_behind (frame_side G f) f.position (nonterminal A) _ behind) (one_more_fits most enough);
          }

      -- where none is chosen, the parse stops
      pub no_choice_stops : chosen A (next_of (drop gone tokens)) ≡ None → StopsAfter G chosen (nonterminal G.start ∷ []) tokens gone
      no_choice_stops c = comes_stop comes_with (no_choice c)

    module _ (here : None ≡ symbol_at (frame_side G f) f.position) where
      -- nothing is left of the frame
      none_left : suffix_of G (place_of f) ≡ []
      none_left = drop_all f.position (frame_side G f) (none_at (frame_side G f) f.position here)

      -- all its symbols are parsed
      all_taken : take f.position (frame_side G f) ≡ frame_side G f
      all_taken = take_all f.position (frame_side G f) (none_at (frame_side G f) f.position here)

      -- so they have their parts
      pub done_parts : AllParts order G (frame_side G f) f.parts
      done_parts = subst (λ (Ys : List Symbol). AllParts order G Ys f.parts) all_taken at.frames.0.parts

      -- their tokens are the frame's
      done_tokens : joined (all_tokens order G (frame_side G f) f.parts) ≡ frame_tokens order G f
      done_tokens = ap {B = List ℕ} (λ (Ys : List Symbol). joined (all_tokens order G Ys f.parts)) (sym all_taken)

      -- which are no more than all tokens
      pub done_short : length (joined (all_tokens order G (frame_side G f) f.parts)) ≤ length tokens
      done_short =
          omega (
            arith,
            ap {B = ℕ} length done_tokens,
            length-append (gone_tokens order G fs) (frame_tokens order G f),
            ap {B = ℕ} length at.read,
            length-take-le gone tokens at.reach,
            at.reach,
          )

      -- the frame has a nonterminal
      pub done_own : (A : ℕ) × (left_of (G.slot f.slot) ≡ Some A)
      done_own = go at.chain
        where
          go : Chain G level (places f fs) gone → (A : ℕ) × (left_of (G.slot f.slot) ≡ Some A)
          go (top A from h b) = (A, h.of)

  module _ {f g : Frame} {fs : List Frame} {gone : ℕ} (at : ParseAt order G chosen level tokens f (g ∷ fs) gone) (here : None ≡ symbol_at (frame_side G f) f.position) where
    -- for which nonterminal of the frame below a frame was opened
    record Opened : Type 0 where
      pub it : ℕ
      pub own : left_of (G.slot f.slot) ≡ Some it
      pub stands : suffix_of G (place_of g) ≡ nonterminal it ∷ suffix_of G (suspended_place g)

    opened : Opened
    opened = go at.chain
      where
        go : Chain G level (places f (g ∷ fs)) gone → Opened
        go (top A from h (above p B from' e d k b)) =
            let i : g.position ≡ p = omega arith in
            record { it = A; own = h.of; stands = ap {B = List Symbol} (λ (n : ℕ). drop n (frame_side G g)) i ∙ d }

    -- there is a place for the part in the frame below
    pub below_low : g.position < 6
    below_low = omega (arith, symbols_behind (frame_side G g) g.position _ _ opened.stands, side_six im.limits g.slot)

    -- the frame is closed, and the one below has its part
    pub frame_closes : (most : ℕ) → (length tokens + 1) * G.nonterminals ≤ most → (d : Part) → WholePart order G f d
        → Goes_on order G chosen level tokens most f (g ∷ fs) (with_part g d) fs gone
    frame_closes most enough d w =
        let o = opened in
        let m = frame_more order G g (nonterminal o.it) _ d (side_six im.limits g.slot) at.frames.1.0 o.stands (w.low o.it o.own) in
        let is = w.is o.it o.own ∙ done_tokens at here in
        let l : gone + 1 ≤ length tokens + 1 = omega (arith, at.reach) in
        let p : (gone + 1) * G.nonterminals ≤ (length tokens + 1) * G.nonterminals = mul-le-mul_right G.nonterminals l in
        record {
          at = record {
            reach = at.reach;
            lowest = lowest_same G g (with_part g d) fs refl at.lowest;
            frames = (m.0, at.frames.1.1);
            chain = close_frame (ll1_of im) (place_of f) (map suspended_place (g ∷ fs)) gone (none_left at here) at.chain;
            read =
                ap {B = List ℕ} (λ (u : List ℕ). gone_tokens order G fs ++ u) (m.1 ∙ ap {B = List ℕ} (λ (u : List ℕ). frame_tokens order G g ++ u) is)
                ∙ sym (append_assoc (gone_tokens order G fs) (frame_tokens order G g) (frame_tokens order G f))
                ∙ at.read;
            comes =
                subst (λ (Ys : List Symbol). ComesTo G chosen (nonterminal G.start ∷ []) tokens (Ys ++ symbols_below G (g ∷ fs)) (drop gone tokens) gone) (none_left at here) at.comes;
          };
          falls =
              close_falls G most (place_of f) (map suspended_place (g ∷ fs)) (omega arith) (omega (arith, depth_bound (ll1_of im) (places f (g ∷ fs)) gone at.chain));
        }

  module _ {f : Frame} {gone : ℕ} (at : ParseAt order G chosen level tokens f [] gone) (here : None ≡ symbol_at (frame_side G f) f.position) where
    -- where all tokens are gone, the part of the lowest frame has their rank
    pub parse_ends : ListsLengths order → length tokens ≤ gone → (d : Part) → WholePart order G f d → Rank G order G.start tokens d.rank
    parse_ends lists l d w =
        let low = w.low G.start at.lowest in
        let all : take gone tokens ≡ tokens = take_all gone tokens l in
        let is : part_tokens order G (nonterminal G.start) d ≡ tokens = w.is G.start at.lowest ∙ done_tokens at here ∙ at.read ∙ all in
        subst (λ (v : List ℕ). Rank G order G.start v d.rank) is (rank_at (ll1_of im) lists G.start d.length d.rank low)

    -- where tokens are left, the parse stops
    pub more_stops : gone < length tokens → StopsAfter G chosen (nonterminal G.start ∷ []) tokens gone
    more_stops l =
        comes_stop
        (subst (λ (v : List ℕ). ComesTo G chosen (nonterminal G.start ∷ []) tokens [] v gone) (drop_more tokens gone 0 l)
        (subst (λ (Ys : List Symbol). ComesTo G chosen (nonterminal G.start ∷ []) tokens (Ys ++ []) (drop gone tokens) gone) (none_left at here) at.comes))
        tokens_left
