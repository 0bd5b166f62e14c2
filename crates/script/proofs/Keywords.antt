-- The texts of keywords: letters only, and no two are the same.
use Rattle.std.proofs.Common.{◌≡◌, ℕ, ◌≤◌, Bool, true, cond, ◌&&◌, leb, List, [], ◌∷◌, ◌++◌, length, IsUtf8, IsAscii, sym, refl, ap, ◌∙◌, subst, arith}
use Rattle.std.specs.List.{AllPass, list_all}
use Rattle.std.specs.Str.{bytes_eq}
use Rattle.std.proofs.lemmas.Bool.{and_parts, leb-true, ne_eqb}
use Rattle.std.proofs.lemmas.List.{append-nil}
use Rattle.std.proofs.lemmas.List.Elements.{All-head, All-tail, All-weaker}
use Rattle.std.proofs.lemmas.Str.Ascii.{IsAscii-nil, IsAscii-cons}
use Rattle.std.proofs.lemmas.Str.{IsUtf8-from_ascii}
use Rattle.std.proofs.lemmas.List.Sums.{AllPass-from_list_all}
use Rattle.script.specs.Text.{spaced}
use Rattle.script.specs.Says.{text, IsBlank}
use Rattle.script.specs.declared.keyword.Keyword.{Keyword}
use Rattle.script.specs.declared.keyword.Keyword.TheVariants.{Brackets, Neutral, Restrict, Start, Choice, Level, Memory, Bound, Count, Check, Table, Cell, Flip, Poke}
use Rattle.script.proofs.Cutting.{Plain}

-- a byte is a small letter
abbrev letter : ℕ → Bool
letter b = leb 97 b && leb b 122

-- one to eight small letters
abbrev word : List ℕ → Bool
word w = list_all letter w && (leb 1 (length w) && leb (length w) 8)

text_word : (k : Keyword) → word (text k) ≡ true
text_word Brackets = refl
text_word Neutral = refl
text_word Restrict = refl
text_word Start = refl
text_word Choice = refl
text_word Level = refl
text_word Memory = refl
text_word Bound = refl
text_word Count = refl
text_word Check = refl
text_word Table = refl
text_word Cell = refl
text_word Flip = refl
text_word Poke = refl

text_letters : (k : Keyword) → AllPass letter (text k)
text_letters k = AllPass-from_list_all letter (text k) (and_parts (list_all letter (text k)) _ (text_word k)).0

text_sizes : (k : Keyword) → (1 ≤ length (text k)) × (length (text k) ≤ 8)
text_sizes k = let p = and_parts (leb 1 (length (text k))) _ (and_parts (list_all letter (text k)) _ (text_word k)).1 in (leb-true 1 _ p.0, leb-true _ 8 p.1)

pub text_length : (k : Keyword) → length (text k) ≤ 8
text_length k = (text_sizes k).1

letter_range : (b : ℕ) → letter b ≡ true → (97 ≤ b) × (b ≤ 122)
letter_range b h = let p = and_parts (leb 97 b) (leb b 122) h in (leb-true 97 b p.0, leb-true b 122 p.1)

-- letters are ASCII
letters_ascii : (w : List ℕ) → AllPass letter w → IsAscii w
letters_ascii [] h = IsAscii-nil
letters_ascii (b ∷ bs) h =
    let r = letter_range b (All-head (λ x. letter x ≡ true) b bs h) in IsAscii-cons b bs (omega arith) (letters_ascii bs (All-tail (λ x. letter x ≡ true) b bs h))

-- a keyword is text
pub utf8_text : (k : Keyword) → IsUtf8 (text k)
utf8_text k = IsUtf8-from_ascii (text k) (letters_ascii (text k) (text_letters k))

-- a keyword has no space
pub plain_text : (k : Keyword) → Plain (text k)
plain_text k = All-weaker _ _ (λ b h. let r = letter_range b h in ne_eqb b 32 (λ e. omega arith)) (text k) (text_letters k)

letters_blank : (w rest : List ℕ) → AllPass letter w → 1 ≤ length w → IsBlank (w ++ rest) → ⊥
letters_blank [] rest h l e = absurd (omega arith)
letters_blank (b ∷ bs) rest h l e = let r = letter_range b (All-head (λ x. letter x ≡ true) b bs h) in omega arith

-- a line that begins with a keyword is not blank
pub text_blank : (k : Keyword) (rest : List ℕ) → IsBlank (text k ++ rest) → ⊥
text_blank k rest = letters_blank (text k) rest (text_letters k) (text_sizes k).0

-- nor is a keyword with words behind it
pub spaced_blank : (k : Keyword) (ws : List (List ℕ)) → IsBlank (spaced (text k ∷ ws)) → ⊥
spaced_blank k [] e = text_blank k [] (subst IsBlank (sym (append-nil (text k))) e)
spaced_blank k (v ∷ ws) e = text_blank k (32 ∷ spaced (v ∷ ws)) e

-- the keyword of a text
named : List ℕ → Keyword
named w = cond (bytes_eq w (text Brackets)) Brackets (cond (bytes_eq w (text Neutral)) Neutral (cond (bytes_eq w (text Restrict)) Restrict (cond (bytes_eq w (text Start)) Start (cond (bytes_eq w (text Choice)) Choice (cond (bytes_eq w (text Level)) Level (cond (bytes_eq w (text Memory)) Memory (cond (bytes_eq w (text Bound)) Bound (cond (bytes_eq w (text Count)) Count (cond (bytes_eq w (text Check)) Check (cond (bytes_eq w (text Table)) Table (cond (bytes_eq w (text Cell)) Cell (cond (bytes_eq w (text Flip)) Flip (Poke)))))))))))))

named_text : (k : Keyword) → named (text k) ≡ k
unfolding named
named_text Brackets = refl
named_text Neutral = refl
named_text Restrict = refl
named_text Start = refl
named_text Choice = refl
named_text Level = refl
named_text Memory = refl
named_text Bound = refl
named_text Count = refl
named_text Check = refl
named_text Table = refl
named_text Cell = refl
named_text Flip = refl
named_text Poke = refl

-- no two keywords have the same text
pub text_injective : (k l : Keyword) → text k ≡ text l → k ≡ l
text_injective k l e = sym (named_text k) ∙ ap named e ∙ named_text l
