-- The printed form of a command, read as tokens.
use Rattle.std.proofs.Common.{◌≡◌, ℕ, Bool, true, false, ◌||◌, nat_eq, List, [], ◌∷◌, ◌++◌, Option, Some, None, refl, sym, ap, ◌∙◌, arith, append_assoc}
use Rattle.std.specs.Char.{is_ascii_digit}
use Rattle.std.proofs.lemmas.Bool.{false≢true, cond-true, cond-false}
use Rattle.std.proofs.lemmas.Bool.Decides.{nat_tests}
use Rattle.std.proofs.lemmas.List.{append-nil}
use Rattle.bdb_lex.specs.declared.token.Token.{Token}
use Rattle.bdb_lex.specs.declared.token.Token.TheVariants.{Word, Text, Num}
use Rattle.bdb_base.specs.Letters.{is_word_byte}
use Rattle.bdb_lex.specs.Tokens.{Reading, started, extended, continued, next_reading, ended_tokens, joined, tokens_from, tokens_of, is_allowed}
use Rattle.bdb_lex.specs.Tokens.Reading.{between, whole}
use Rattle.bdb_lex.proofs.TokenLemmas.{joined_nothing, joined_done}

pub joined_assoc : (a b x : Option (List Token)) → joined a (joined b x) ≡ joined (joined a b) x
joined_assoc None b x = refl
joined_assoc (Some a) None x = refl
joined_assoc (Some a) (Some b) None = refl
joined_assoc (Some a) (Some b) (Some ts) = ap Some (sym (append_assoc a b ts))

-- what is found in the bytes before the last that is being read, and what is being read then
abbrev pub tokens_ended : Reading → List ℕ → Option (List Token)
tokens_ended r [] = Some []
tokens_ended r (b ∷ bytes) = joined (ended_tokens (continued r b) r) (tokens_ended (next_reading (continued r b) b) bytes)

abbrev pub reading_after : Reading → List ℕ → Reading
reading_after r [] = r
reading_after r (b ∷ bytes) = reading_after (next_reading (continued r b) b) bytes

pub run : (r : Reading) (a rest : List ℕ) → tokens_from r (a ++ rest) ≡ joined (tokens_ended r a) (tokens_from (reading_after r a) rest)
run r [] rest = sym (joined_nothing _)
run r (b ∷ a) rest =
    ap (joined (ended_tokens (continued r b) r)) (run (next_reading (continued r b) b) a rest)
    ∙ joined_assoc (ended_tokens (continued r b) r) (tokens_ended (next_reading (continued r b) b) a) _

-- what stands behind a word, a number or a text of a printed form
abbrev pub is_edge_byte : ℕ → Bool
is_edge_byte b = nat_eq b 32 || nat_eq b 44 || nat_eq b 46 || nat_eq b 40 || nat_eq b 41

abbrev pub is_edge : List ℕ → Bool
is_edge [] = true
is_edge (b ∷ bytes) = is_edge_byte b

abbrev pub starts_edge : List ℕ → Bool
starts_edge [] = false
starts_edge (b ∷ bytes) = is_edge_byte b

pub edge_append : (a b : List ℕ) → is_edge a ≡ true → is_edge b ≡ true → is_edge (a ++ b) ≡ true
edge_append [] b e f = f
edge_append (x ∷ a) b e f = e

pub edge_from_start : (a b : List ℕ) → starts_edge a ≡ true → is_edge (a ++ b) ≡ true
edge_from_start [] b e = absurd (false≢true e)
edge_from_start (x ∷ a) b e = e

-- a token doesn't go on with these bytes
abbrev pub StopsAt : Token → List ℕ → Type 0
StopsAt t [] = Unit {0}
StopsAt t (b ∷ bytes) = extended t b ≡ None

pub stops : (t : Token) (rest : List ℕ) → StopsAt t rest → is_allowed t ≡ true → tokens_from (whole t) rest ≡ joined (Some (t ∷ [])) (tokens_of rest)
stops t [] h ok = cond-true (is_allowed t) _ _ ok ∙ sym (joined_done _)
stops t (b ∷ bytes) h ok = rw h (ap (λ x. joined x (tokens_from (started b) bytes)) (cond-true (is_allowed t) _ _ ok) ∙ ap (joined (Some (t ∷ []))) (sym (joined_nothing _)))

pub edge_no_word : (b : ℕ) → is_edge_byte b ≡ true → is_word_byte b ≡ false
edge_no_word b h = grind (arith, nat_tests)

pub edge_no_digit : (b : ℕ) → is_edge_byte b ≡ true → is_ascii_digit b ≡ false
edge_no_digit b h = grind (arith, nat_tests)

pub edge_no_quote : (b : ℕ) → is_edge_byte b ≡ true → nat_eq b 39 ≡ false
edge_no_quote b h = grind (arith, nat_tests)

pub word_stops : (w rest : List ℕ) → is_edge rest ≡ true → StopsAt (Word w) rest
word_stops w [] h = tt
word_stops w (b ∷ rest) h = cond-false (is_word_byte b) _ _ (edge_no_word b h)

pub num_stops : (n rest : List ℕ) → is_edge rest ≡ true → StopsAt (Num n) rest
num_stops n [] h = tt
num_stops n (b ∷ rest) h = cond-false (is_ascii_digit b) _ _ (edge_no_digit b h)

pub text_stops : (t rest : List ℕ) → is_edge rest ≡ true → StopsAt (Text t) rest
text_stops t [] h = tt
text_stops t (b ∷ rest) h = cond-false (nat_eq b 39) _ _ (edge_no_quote b h)

-- where an edge follows, the bytes are these tokens
pub record Reads (text : List ℕ) (ts : List Token) : Type 0 where
  pub reads : (rest : List ℕ) → is_edge rest ≡ true → tokens_of (text ++ rest) ≡ joined (Some ts) (tokens_of rest)

-- whatever follows, the bytes are these tokens
pub record Ends (text : List ℕ) (ts : List Token) : Type 0 where
  pub reads : (rest : List ℕ) → tokens_of (text ++ rest) ≡ joined (Some ts) (tokens_of rest)

pub reads_all : (text : List ℕ) (ts : List Token) → Reads text ts → tokens_of text ≡ Some ts
reads_all text ts h = ap tokens_of (sym (append-nil text)) ∙ (h.reads [] refl ∙ joined_done (Some ts))

two : (a b rest : List ℕ) (ts us : List Token) → tokens_of (a ++ (b ++ rest)) ≡ joined (Some ts) (tokens_of (b ++ rest)) → tokens_of (b ++ rest) ≡ joined (Some us) (tokens_of rest)
    → tokens_of (a ++ b ++ rest) ≡ joined (Some (ts ++ us)) (tokens_of rest)
two a b rest ts us e f =
    ap tokens_of (append_assoc a b rest) ∙ (e ∙ (ap (joined (Some ts)) f ∙ joined_assoc (Some ts) (Some us) (tokens_of rest)))

pub reads_from_ends : {a : List ℕ} {ts : List Token} → Ends a ts → Reads a ts
reads_from_ends h = record { reads = λ rest e. h.reads rest }

pub ends_reads : {a b : List ℕ} {ts us : List Token} → Ends a ts → Reads b us → Reads (a ++ b) (ts ++ us)
ends_reads {a} {b} {ts} {us} h k = record { reads = λ rest e. two a b rest ts us (h.reads (b ++ rest)) (k.reads rest e) }

pub ends_ends : {a b : List ℕ} {ts us : List Token} → Ends a ts → Ends b us → Ends (a ++ b) (ts ++ us)
ends_ends {a} {b} {ts} {us} h k = record { reads = λ rest. two a b rest ts us (h.reads (b ++ rest)) (k.reads rest) }

pub reads_reads : {a b : List ℕ} {ts us : List Token} → is_edge b ≡ true → Reads a ts → Reads b us → Reads (a ++ b) (ts ++ us)
reads_reads {a} {b} {ts} {us} s h k = record { reads = λ rest e. two a b rest ts us (h.reads (b ++ rest) (edge_append b rest s e)) (k.reads rest e) }

pub reads_ends : {a b : List ℕ} {ts us : List Token} → starts_edge b ≡ true → Reads a ts → Ends b us → Ends (a ++ b) (ts ++ us)
reads_ends {a} {b} {ts} {us} s h k = record { reads = λ rest. two a b rest ts us (h.reads (b ++ rest) (edge_from_start b rest s)) (k.reads rest) }

-- fixed bytes that end between tokens
pub ends_between : (a : List ℕ) (ts : List Token) → tokens_ended between a ≡ Some ts → reading_after between a ≡ between → Ends a ts
ends_between a ts e f = record { reads = λ rest. run between a rest ∙ (ap (λ x. joined x (tokens_from (reading_after between a) rest)) e ∙ ap (λ r. joined (Some ts) (tokens_from r rest)) f) }

-- fixed bytes that end with a token
pub whole_after : (a : List ℕ) (ts : List Token) (t : Token) (rest : List ℕ) → tokens_ended between a ≡ Some ts → reading_after between a ≡ whole t → StopsAt t rest → is_allowed t ≡ true
    → tokens_of (a ++ rest) ≡ joined (Some (ts ++ t ∷ [])) (tokens_of rest)
whole_after a ts t rest e f s ok =
    run between a rest ∙ (ap (λ x. joined x (tokens_from (reading_after between a) rest)) e ∙ (ap (λ r. joined (Some ts) (tokens_from r rest)) f
    ∙ (ap (joined (Some ts)) (stops t rest s ok) ∙ joined_assoc (Some ts) (Some (t ∷ [])) (tokens_of rest))))

never : (t : Token) (rest : List ℕ) → ((b : ℕ) → extended t b ≡ None) → StopsAt t rest
never t [] h = tt
never t (b ∷ rest) h = h b

pub ends_mark : (a : List ℕ) (ts : List Token) (t : Token) → tokens_ended between a ≡ Some ts → reading_after between a ≡ whole t → ((b : ℕ) → extended t b ≡ None) → is_allowed t ≡ true → Ends a (ts ++ t ∷ [])
ends_mark a ts t e f s ok = record { reads = λ rest. whole_after a ts t rest e f (never t rest s) ok }

pub reads_word : (a : List ℕ) (ts : List Token) (w : List ℕ) → tokens_ended between a ≡ Some ts → reading_after between a ≡ whole (Word w) → is_allowed (Word w) ≡ true → Reads a (ts ++ Word w ∷ [])
reads_word a ts w e f ok = record { reads = λ rest h. whole_after a ts (Word w) rest e f (word_stops w rest h) ok }

pub reads_nothing : Reads [] []
reads_nothing = record { reads = λ rest e. sym (joined_nothing _) }

-- fixed bytes that end with a token that an edge ends
pub reads_mark : (a : List ℕ) (ts : List Token) (t : Token) → tokens_ended between a ≡ Some ts → reading_after between a ≡ whole t → ((rest : List ℕ) → is_edge rest ≡ true → StopsAt t rest) → is_allowed t ≡ true → Reads a (ts ++ t ∷ [])
reads_mark a ts t e f s ok = record { reads = λ rest h. whole_after a ts t rest e f (s rest h) ok }
