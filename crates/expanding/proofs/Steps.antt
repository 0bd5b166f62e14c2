-- The steps of an expansion: a token written, a frame opened, a frame closed. Assumes nothing.
use Rattle.std.proofs.Common.{◌≡◌, ℕ, suc, ◌+◌, ◌-◌, ◌*◌, ◌<◌, ◌≤◌, List, [], ◌∷◌, ◌++◌, map, length, get_or, drop, Some, None, sym, ap, ◌∙◌, subst, ⊎_elim, append_assoc, append-nil, mul-le-mul_right, add-one, arith}
use lib.ListN.{length-map}
use Rattle.std.proofs.lemmas.List.{drop_all}
use Rattle.std.proofs.lemmas.Bool.{cases_eq}
use Rattle.theory.specs.Lists.{joined}
use Rattle.theory.specs.Grammar.{Symbol, terminal, nonterminal, Cfg}
use Rattle.theory.specs.Sound.{Ll1}
use Rattle.theory.specs.Order.{LengthOrder, ListsLengths}
use Rattle.theory.specs.Count.{right_of}
use Rattle.theory.specs.Enumerate.{sentences}
use Rattle.theory.proofs.Listing.{ways_length}
use Rattle.grammar.specs.Symbols.{symbol_at}
use Rattle.grammar.specs.declared.Symbol.TheVariants as value
use Rattle.grammar.proofs.Symbols.{stands_at, terminal_at, nonterminal_at, none_at}
use Rattle.table.proofs.Sides.{drop_next}
use Rattle.walk.specs.Depth.{side_of, suffix_of, next_place, Chain}
use Rattle.walk.specs.Measure.{measure}
use Rattle.walk.specs.Ways.{ways}
use Rattle.walk.proofs.Depth.{begin_chain, pass_token, open_frame, close_frame, depth_bound, room}
use Rattle.walk.proofs.Measure.{open_falls, close_falls}
use Rattle.walk.proofs.Ways.{ways_none, ways_none_only, ways_terminal_none, terminal_length, terminal_nth}
use Rattle.walk.proofs.Slots.{slot_nth}
use Rattle.expanding.specs.declared.frame.Frame.{Frame}
use Rattle.expanding.specs.declared.frame.Part.{Part}
use Rattle.expanding.specs.Frames.{past_token, rest_frame, place_of, ways_left, to_write, all_to_write, tokens_left, FrameOf, AtNonterminal}
use Rattle.expanding.specs.Dividing.{Opened, Parted}
use Rattle.expanding.specs.Expansions.{ExpansionAt}

-- a frame before a nonterminal
pub before_nonterminal : (G : Cfg) (f : Frame) (A : ℕ) → Some (value.Nonterminal A) ≡ symbol_at (side_of G (place_of f)) f.position → AtNonterminal G f A
before_nonterminal G f A e =
    nonterminal_at (side_of G (place_of f)) f.position A e
    ∙ ap {B = List Symbol} (λ (x : ℕ). nonterminal A ∷ drop x (side_of G (place_of f))) (sym (add-one f.position))

module _ {G : Cfg} {level : ℕ → ℕ} {order : LengthOrder} (ll : Ll1 G level) (lists : ListsLengths order) where
  -- an opened frame is a frame of G
  pub opened_frame : (A m k L : ℕ) (f : Frame) → m ≤ L → Opened G A m k f → FrameOf order G L f
  opened_frame A m k L f short o = record {
    filled = o.filled;
    inside = omega (arith, o.front);
    short = omega (arith, o.long);
    low = rw (o.front, o.long) (omega (arith, o.low, ways_length ll lists (right_of (G.slot f.slot)) m));
  }

  -- and writes the sentence
  pub opened_writes : (A m k : ℕ) (f : Frame) → Opened G A m k f → to_write order G f ≡ get_or (sentences order G A m) k []
  opened_writes A m k f o =
      rw (o.front, o.long)
      (sym (slot_nth ll lists A m f.slot f.rank k o.of o.filled (omega (arith, o.low, ways_length ll lists (right_of (G.slot f.slot)) m)) o.is))

  -- the first frame
  pub begin : {L most : ℕ} (n k : ℕ) (f : Frame) → n ≤ L → (n + 1) * G.nonterminals ≤ most → Opened G G.start n k f → ExpansionAt order G level L most (f ∷ [])
  begin {L} {most} n k f short enough o = record {
    written = 0;
    frames_of = (opened_frame G.start n k L f short o, tt);
    chain = subst (λ (p : ℕ). Chain G level (record { slot = f.slot; position = p } ∷ []) 0) (sym o.front) (begin_chain ll f.slot G.start o.of);
    enough = let e : 0 + (f.length + 0) + 1 ≡ n + 1 = omega (arith, o.long) in subst (λ (m : ℕ). m * G.nonterminals ≤ most) (sym e) enough;
  }

  -- it is to write the whole sentence
  pub begin_whole : (n k : ℕ) (f : Frame) → Opened G G.start n k f → all_to_write order G (f ∷ []) ≡ get_or (sentences order G G.start n) k []
  begin_whole n k f o = append-nil (to_write order G f) ∙ opened_writes G.start n k f o

  module _ {L most : ℕ} where
    module _ {f : Frame} {fs : List Frame} (st : ExpansionAt order G level L most (f ∷ fs)) where
      -- there is room where no more tokens are written and left
      fits : (k : ℕ) → k ≤ st.written + (f.length + tokens_left fs) → (k + 1) * G.nonterminals ≤ most
      fits k l =
          let more : k + 1 ≤ st.written + (f.length + tokens_left fs) + 1 = omega (arith, l) in
          let product : (k + 1) * G.nonterminals ≤ (st.written + (f.length + tokens_left fs) + 1) * G.nonterminals = mul-le-mul_right G.nonterminals more in
          omega (arith, product, st.enough)

      within : length (map place_of (f ∷ fs)) ≤ most
      within = omega (arith, fits st.written (omega arith), depth_bound ll (map place_of (f ∷ fs)) st.written st.chain)

      module _ (e : None ≡ symbol_at (side_of G (place_of f)) f.position) where
        end : f.position ≡ length (side_of G (place_of f))
        end = omega (arith, none_at (side_of G (place_of f)) f.position e, st.frames_of.0.inside)

        no_symbols : suffix_of G (place_of f) ≡ []
        no_symbols = drop_all f.position (side_of G (place_of f)) (omega (arith, end))

        nothing : (f.length ≡ 0) × (f.rank ≡ 0)
        nothing = ways_none_only order G f.length f.rank (subst (λ (v : List Symbol). f.rank < length (ways order G v f.length)) no_symbols st.frames_of.0.low)

        writes_nothing : to_write order G f ≡ []
        writes_nothing =
            ap {B = List ℕ} (λ (v : List Symbol). joined (get_or (ways order G v f.length) f.rank [])) no_symbols
            ∙ ap {B = List ℕ} (λ (m : ℕ). joined (get_or (ways order G [] m) f.rank [])) nothing.0
            ∙ ap {B = List ℕ} (λ (r : ℕ). joined (get_or (ways order G [] 0) r [])) nothing.1
            ∙ ap {B = List ℕ} (λ (v : List (List (List ℕ))). joined (get_or v 0 [])) (ways_none order G)

        -- the frame at work is done
        pub close_step : ExpansionAt order G level L most fs
        close_step = record {
          written = st.written;
          frames_of = st.frames_of.1;
          chain = close_frame ll (place_of f) (map place_of fs) st.written no_symbols st.chain;
          enough = fits (st.written + tokens_left fs) (omega arith);
        }

        pub close_same : all_to_write order G fs ≡ all_to_write order G (f ∷ fs)
        close_same = ap {B = List ℕ} (λ (u : List ℕ). u ++ all_to_write order G fs) (sym writes_nothing)

        pub close_less : measure G most (map place_of fs) < measure G most (map place_of (f ∷ fs))
        close_less = close_falls G most (place_of f) (map place_of fs) st.frames_of.0.inside within

      -- where a symbol stands, the position is inside the right-hand side
      pub position_inside : (v : _) → Some v ≡ symbol_at (side_of G (place_of f)) f.position → f.position < length (side_of G (place_of f))
      position_inside v e = let i = stands_at (side_of G (place_of f)) f.position v e in omega (arith, (drop_next (side_of G (place_of f)) f.position i.0 _ i.1).1)

      module _ (t : ℕ) (e : Some (value.Terminal t) ≡ symbol_at (side_of G (place_of f)) f.position) where
        terminal_inside : f.position < length (side_of G (place_of f))
        terminal_inside = position_inside _ e

        at_terminal : suffix_of G (place_of f) ≡ terminal t ∷ suffix_of G (next_place (place_of f))
        at_terminal =
            terminal_at (side_of G (place_of f)) f.position t e
            ∙ ap {B = List Symbol} (λ (x : ℕ). terminal t ∷ drop x (side_of G (place_of f))) (sym (add-one f.position))

        ways_at : (m : ℕ) → ways order G (suffix_of G (place_of f)) m ≡ ways order G (terminal t ∷ suffix_of G (next_place (place_of f))) m
        ways_at m = ap {B = List (List (List ℕ))} (λ (v : List Symbol). ways order G v m) at_terminal

        -- a token is left to write
        pub token_left : 0 < f.length
        token_left = ⊎_elim (λ (z : f.length ≡ 0). absurd (none z)) (λ ne. omega arith) (cases_eq f.length 0)
          where
            none : f.length ≡ 0 → ⊥
            none z =
                let o = ways_at f.length ∙ ap {B = List (List (List ℕ))} (λ (m : ℕ). ways order G (terminal t ∷ suffix_of G (next_place (place_of f))) m) z
                ∙ ways_terminal_none ll lists t (suffix_of G (next_place (place_of f))) in
                omega (arith, ap {B = ℕ} length o, st.frames_of.0.low)

        one_more : f.length ≡ suc (f.length - 1)
        one_more = omega (arith, token_left)

        longer : ways_left order G f ≡ ways order G (terminal t ∷ suffix_of G (next_place (place_of f))) (suc (f.length - 1))
        longer = ways_at f.length ∙ ap {B = List (List (List ℕ))} (λ (m : ℕ). ways order G (terminal t ∷ suffix_of G (next_place (place_of f))) m) one_more

        rest_low : f.rank < length (ways_left order G (past_token f))
        rest_low =
            omega (arith, st.frames_of.0.low, ap {B = ℕ} length longer, terminal_length ll lists t (suffix_of G (next_place (place_of f))) (f.length - 1))

        writes_token : to_write order G f ≡ t ∷ to_write order G (past_token f)
        writes_token =
            ap {B = List ℕ} (λ (v : List (List (List ℕ))). joined (get_or v f.rank [])) longer
            ∙ ap {B = List ℕ} joined (terminal_nth ll lists t (suffix_of G (next_place (place_of f))) (f.length - 1) f.rank rest_low)

        -- the token is written
        pub token_step : ExpansionAt order G level L most (past_token f ∷ fs)
        token_step = record {
          written = st.written + 1;
          frames_of = (record { filled = st.frames_of.0.filled; inside = omega (arith, terminal_inside); short = omega (arith, st.frames_of.0.short); low = rest_low }, st.frames_of.1);
          chain = pass_token ll (place_of f) (map place_of fs) st.written st.chain;
          enough = fits (st.written + 1 + ((f.length - 1) + tokens_left fs)) (omega (arith, token_left));
        }

        -- the others are still to come
        pub token_first : all_to_write order G (f ∷ fs) ≡ t ∷ all_to_write order G (past_token f ∷ fs)
        token_first = ap {B = List ℕ} (λ (u : List ℕ). u ++ all_to_write order G fs) writes_token

      module _ (A : ℕ) (e : Some (value.Nonterminal A) ≡ symbol_at (side_of G (place_of f)) f.position) where
        nonterminal_inside : f.position < length (side_of G (place_of f))
        nonterminal_inside = position_inside _ e

        at_symbol : AtNonterminal G f A
        at_symbol = before_nonterminal G f A e

        -- fewer frames are open than may be
        pub open_room : length (f ∷ fs) < most
        open_room =
            omega (arith, fits st.written (omega arith), room ll (place_of f) (map place_of fs) st.written A (suffix_of G (next_place (place_of f))) st.chain at_symbol, length-map fs place_of)

        module _ (p : Part) (g : Frame) (parted : Parted order G f A p) (o : Opened G A p.length p.rank g) where
          -- a frame is opened for the first part, and the rest is suspended
          pub open_step : ExpansionAt order G level L most (g ∷ rest_frame f p ∷ fs)
          open_step = record {
            written = st.written;
            frames_of = (
              opened_frame A p.length p.rank L g (omega (arith, parted.short, st.frames_of.0.short)) o,
              (
                record {
                  filled = st.frames_of.0.filled;
                  inside = omega (arith, nonterminal_inside);
                  short = omega (arith, st.frames_of.0.short);
                  low = parted.rest;
                },
                st.frames_of.1,
              ),
            );
            chain = subst (λ (q : ℕ). Chain G level (record { slot = g.slot; position = q } ∷ next_place (place_of f) ∷ map place_of fs) st.written) (sym o.front)
                (open_frame ll (place_of f) (map place_of fs) st.written g.slot A (suffix_of G (next_place (place_of f))) st.chain at_symbol o.of);
            enough = fits (st.written + (g.length + ((f.length - p.length) + tokens_left fs))) (omega (arith, parted.short, o.long));
          }

          pub open_same : all_to_write order G (g ∷ rest_frame f p ∷ fs) ≡ all_to_write order G (f ∷ fs)
          open_same =
              sym (append_assoc (to_write order G g) (to_write order G (rest_frame f p)) (all_to_write order G fs))
              ∙ ap {B = List ℕ} (λ (u : List ℕ). (u ++ to_write order G (rest_frame f p)) ++ all_to_write order G fs) (opened_writes A p.length p.rank g o)
              ∙ ap {B = List ℕ} (λ (u : List ℕ). u ++ all_to_write order G fs) (sym parted.writes)

          pub open_less : measure G most (map place_of (g ∷ rest_frame f p ∷ fs)) < measure G most (map place_of (f ∷ fs))
          open_less =
              subst (λ (q : ℕ). measure G most (record { slot = g.slot; position = q } ∷ next_place (place_of f) ∷ map place_of fs) < measure G most (map place_of (f ∷ fs))) (sym o.front)
              (open_falls G most (place_of f) (map place_of fs) ll.limits g.slot nonterminal_inside (omega (arith, open_room, length-map fs place_of)))
