-- A line says one command at most, and read words give the command that it says.
use Rattle.std.proofs.Common.{◌≡◌, ℕ, zero, suc, pred, ◌<◌, false, not, List, [], ◌∷◌, map, length, get_or, Some, None, codes, Option, sym, refl, ap, ◌∙◌, subst, arith, MatchOption}
use Rattle.std.specs.List.{All}
use Rattle.std.proofs.lemmas.Bool.{ne_eqb, not-true}
use Rattle.std.proofs.lemmas.List.Elements.{All-cons, All-from_get_or, All-nil, All-same, All-weaker}
use Rattle.std.proofs.lemmas.List.Splits.{join_with_byte-slice_split}
use Rattle.std.proofs.lemmas.List.Sums.{AllPass-from_list_all}
use Rattle.script.specs.Text.{Numeral, spaced}
use Rattle.script.specs.Cut.{cut}
use Rattle.script.specs.Says.{Argument, number, end, text, keyword_of, arguments, Writes, WriteAll, Says}
use Rattle.script.specs.Shapes.{Refused, shape}
use Rattle.script.specs.Laws.{OneCommand, OneReading}
use Rattle.script.specs.declared.keyword.Keyword.{Keyword}
use Rattle.script.specs.declared.keyword.Keyword.TheVariants as key
use Rattle.script.specs.declared.Line.TheVariants as line
use Rattle.script.specs.declared.Command.{Command}
use Rattle.script.specs.declared.Command.TheVariants.{Brackets, Neutral, Restrict, Start, Choice, Level, Memory, Bound, Count, Check, Table, Cell, Flip, Poke}
use Rattle.script.proofs.Cutting.{space, Plain, cut_spaced}
use Rattle.script.proofs.Keywords.{plain_text, text_injective}

numeral_plain : (w : List ℕ) (v : ℕ) → Numeral w v → Plain w
numeral_plain w v n = All-from_get_or (λ b. space b ≡ false) w 0 (λ i l. ne_eqb (get_or w i 0) 32 (λ e. let d = n.digits i l in omega arith))

writes_plain : (a : Argument) (w : List ℕ) → Writes a w → Plain w
writes_plain (number l v) w h = numeral_plain w v h.0
writes_plain end w h = All-same (λ b. space b ≡ false) w (codes "end") h (All-weaker _ _ (λ b e. not-true (space b) e) (codes "end") (AllPass-from_list_all (λ b. not (space b)) (codes "end") refl))

write_plain : (more : List Argument) (ws : List (List ℕ)) → WriteAll more ws → All Plain ws
write_plain [] [] h = All-nil Plain
write_plain [] (w ∷ ws) h = absurd h
write_plain (a ∷ more) [] h = absurd h
write_plain (a ∷ more) (w ∷ ws) h = All-cons Plain w ws (writes_plain a w h.0) (write_plain more ws h.1)

-- the words of a line that says a command
pub says_cut : (bytes : List ℕ) (c : Command) (s : Says bytes c) → cut bytes ≡ text (keyword_of c) ∷ s.words
says_cut bytes c s = ap cut s.joined ∙ cut_spaced (text (keyword_of c)) s.words (All-cons Plain _ _ (plain_text (keyword_of c)) (write_plain (arguments c) s.words s.written))

-- a command whose keyword and arguments are the words of a line
pub says_from : (bytes w : List ℕ) (rest : List (List ℕ)) (k : Keyword) (c : Command) → cut bytes ≡ w ∷ rest → w ≡ text k → keyword_of c ≡ k → WriteAll (arguments c) rest → Says bytes c
says_from bytes w rest k c e f g h =
    record { words = rest; joined = sym (join_with_byte-slice_split 32 bytes) ∙ ap spaced (e ∙ ap (λ (x : List ℕ). x ∷ rest) (f ∙ ap text (sym g))); written = h }

-- arguments of a command are none where its shape is refused
refuse : (c : Command) (ws : List (List ℕ)) → Refused (shape (keyword_of c)) ws → WriteAll (arguments c) ws → ⊥
refuse (Brackets v) ws h = h (v ∷ []) refl
refuse Neutral ws h = h
refuse (Restrict v) ws h = h (v ∷ []) refl
refuse (Start v) ws h = h (v ∷ []) refl
refuse (Choice v x) ws h = h v x
refuse (Level v) ws h = h (v ∷ []) refl
refuse (Memory a b v) ws h = h (a ∷ b ∷ v ∷ []) refl
refuse (Bound v) ws h = h (v ∷ []) refl
refuse Count ws h = h
refuse Check ws h = h
refuse Table ws h = h
refuse (Cell v) ws h = h (v ∷ []) refl
refuse (Flip a b) ws h = h (a ∷ b ∷ []) refl
refuse (Poke a b) ws h = h (a ∷ b ∷ []) refl

-- a line whose arguments are refused says nothing
pub says_refused : (bytes w : List ℕ) (rest : List (List ℕ)) (k : Keyword) → cut bytes ≡ w ∷ rest → w ≡ text k → Refused (shape k) rest → (c : Command) → Says bytes c → ⊥
says_refused bytes w rest k e f h c s =
    let g = says_cut bytes c s in
    let t : text k ≡ text (keyword_of c) = cc in
    let r : rest ≡ s.words = cc in
    let i = text_injective k (keyword_of c) t in
    refuse c s.words (subst (λ (x : List (List ℕ)). Refused (shape (keyword_of c)) x) r (subst (λ (x : Keyword). Refused (shape x) rest) i h)) s.written

-- what is read of the words of a line
pub says_read : (bytes w : List ℕ) (rest : List (List ℕ)) (k : Keyword) (o : Option Command) → cut bytes ≡ w ∷ rest → w ≡ text k → MatchOption o (Refused (shape k) rest) (λ c. (keyword_of c ≡ k) × WriteAll (arguments c) rest) → MatchOption o ((c : Command) → Says bytes c → ⊥) (λ c. Says bytes c)
says_read bytes w rest k None e f h = says_refused bytes w rest k e f h
says_read bytes w rest k (Some c) e f h = says_from bytes w rest k c e f h.0 h.1

-- an argument without its limit: 0 for the end, and else one more than the number
abbrev value_of : Argument → ℕ
value_of (number l v) = suc v
value_of end = zero

not_end : (w : List ℕ) (v : ℕ) → Numeral w v → w ≡ codes "end" → ⊥
not_end w v n e = let l : 0 < length w = n.some in let d = n.digits 0 l in let x : get_or w 0 0 ≡ 101 = ap (λ (x : List ℕ). get_or x 0 0) e in omega arith

writes_same : (a b : Argument) (w : List ℕ) → Writes a w → Writes b w → value_of a ≡ value_of b
writes_same (number l v) (number m u) w g h = let x = g.0.value in let y = h.0.value in cc
writes_same (number l v) end w g h = absurd (not_end w v g.0 h)
writes_same end (number m u) w g h = absurd (not_end w u h.0 g)
writes_same end end w g h = refl

write_same : (more bs : List Argument) (ws : List (List ℕ)) → WriteAll more ws → WriteAll bs ws → map value_of more ≡ map value_of bs
write_same [] [] ws g h = refl
write_same [] (b ∷ bs) [] g h = absurd h
write_same [] (b ∷ bs) (w ∷ ws) g h = absurd g
write_same (a ∷ more) [] [] g h = absurd g
write_same (a ∷ more) [] (w ∷ ws) g h = absurd h
write_same (a ∷ more) (b ∷ bs) [] g h = absurd g
write_same (a ∷ more) (b ∷ bs) (w ∷ ws) g h = let x = writes_same a b w g.0 h.0 in let y = write_same more bs ws g.1 h.1 in cc

abbrev next_from : ℕ → Option ℕ
next_from zero = None
next_from (suc t) = Some t

-- the number at a place
abbrev at : List ℕ → ℕ → ℕ
at vs i = pred (get_or vs i 0)

-- the command of a keyword and its arguments
abbrev command_from : Keyword → List ℕ → Command
command_from key.Brackets vs = Brackets (at vs 0)
command_from key.Neutral vs = Neutral
command_from key.Restrict vs = Restrict (at vs 0)
command_from key.Start vs = Start (at vs 0)
command_from key.Choice vs = Choice (at vs 0) (next_from (get_or vs 1 0))
command_from key.Level vs = Level (at vs 0)
command_from key.Memory vs = Memory (at vs 0) (at vs 1) (at vs 2)
command_from key.Bound vs = Bound (at vs 0)
command_from key.Count vs = Count
command_from key.Check vs = Check
command_from key.Table vs = Table
command_from key.Cell vs = Cell (at vs 0)
command_from key.Flip vs = Flip (at vs 0) (at vs 1)
command_from key.Poke vs = Poke (at vs 0) (at vs 1)

command_is : (c : Command) → command_from (keyword_of c) (map value_of (arguments c)) ≡ c
command_is (Brackets v) = refl
command_is Neutral = refl
command_is (Restrict v) = refl
command_is (Start v) = refl
command_is (Choice v (Some t)) = refl
command_is (Choice v None) = refl
command_is (Level v) = refl
command_is (Memory a b v) = refl
command_is (Bound v) = refl
command_is Count = refl
command_is Check = refl
command_is Table = refl
command_is (Cell v) = refl
command_is (Flip a b) = refl
command_is (Poke a b) = refl

-- no line says two commands
pub one_command : OneCommand
one_command bytes c d s t =
    let e = says_cut bytes c s in
    let f = says_cut bytes d t in
    let g : text (keyword_of c) ≡ text (keyword_of d) = cc in
    let r : t.words ≡ s.words = cc in
    let k = text_injective (keyword_of c) (keyword_of d) g in
    let h = write_same (arguments c) (arguments d) s.words s.written (subst (WriteAll (arguments d)) r t.written) in
    let x = command_is c in
    let y = command_is d in
    cc

-- no line is read in two ways
pub one_reading : OneReading
one_reading bytes line.Blank line.Blank g h = refl
one_reading bytes line.Blank (line.Command d) g h = absurd (h.0 g)
one_reading bytes line.Blank line.Unreadable g h = absurd (h.0 g)
one_reading bytes (line.Command c) line.Blank g h = absurd (g.0 h)
one_reading bytes (line.Command c) (line.Command d) g h = ap line.Command (one_command bytes c d g.2 h.2)
one_reading bytes (line.Command c) line.Unreadable g h = absurd (h.1 g.1 c g.2)
one_reading bytes line.Unreadable line.Blank g h = absurd (g.0 h)
one_reading bytes line.Unreadable (line.Command d) g h = absurd (g.1 h.1 d h.2)
one_reading bytes line.Unreadable line.Unreadable g h = refl
