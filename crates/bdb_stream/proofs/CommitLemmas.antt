-- What is done of what a stream asks for, by how often it has committed.
use Rattle.std.proofs.Common.{◌≡◌, ◌≢◌, ◌∙◌, ℕ, ◌+◌, ◌-◌, true, false, nat_eq, nat_lt, List, [], ◌∷◌, ◌++◌, inl, inr, refl, ap, sym, subst, append-nil, arith}
use Rattle.std.proofs.lemmas.Bool.{cases_Bool, cond-true, cond-false, le-ltb, lt-ltb}
use Rattle.bdb_stream.specs.Commits.{before_commit, up_to_commit}
use Rattle.bdb_stream.specs.Handling.{Handling, IsFrontOf, IsInOrder}
use Rattle.bdb_stream.proofs.HandledLemmas.{replies-append}

more_less : (m n : ℕ) → m + n - m ≡ n
more_less m n = omega arith

zero_if : (n : ℕ) → nat_lt 0 n ≡ false → n ≡ 0
zero_if n f = grind (arith, f)

none_less : (n : ℕ) → 0 - n ≡ 0
none_less n = omega arith

one_less : (c n : ℕ) → c + n - 1 - c ≡ n - 1
one_less c n = omega arith

still_some : (c n : ℕ) → nat_lt (c + n - 1) c ≡ false → c + n ≢ 0 → n ≢ 0
still_some c n g some none = grind (arith, g)

first_cut : (c : ℕ) → c + 0 ≢ 0 → nat_lt (c + 0 - 1) c ≡ true
first_cut c some = lt-ltb (c + 0 - 1) c (omega (arith, some))

front_cons : {A : Type 0} (a : A) (xs ys : List A) → IsFrontOf xs ys → IsFrontOf (a ∷ xs) (a ∷ ys)
front_cons a xs ys h = (h.0, ap (λ l. a ∷ l) h.1)

front_none : {A : Type 0} (xs : List A) → IsFrontOf [] xs
front_none xs = (xs, refl)

module _ {H : Type 0} (m : Handling H) (o : IsInOrder m) where
  -- what comes before the next time that it commits begins with what is done
  before_is : (p : m.Point) (a : m.Asked) (d rest : List m.Asked)
      → before_commit m (m.committed p (a ∷ d)) p (a ∷ (d ++ rest)) ≡ a ∷ before_commit m (m.committed (m.next_point p a) d) (m.next_point p a) (d ++ rest)
  before_is p a d rest =
      let c = m.commits_by p a in
      let n = m.committed (m.next_point p a) d in
      ap (λ k. before_commit m k p (a ∷ (d ++ rest))) (o.commits p a d)
      ∙ cond-false (nat_lt (c + n) c) [] (a ∷ before_commit m (c + n - c) (m.next_point p a) (d ++ rest)) (le-ltb (c + n) c (omega arith))
      ∙ ap (λ k. a ∷ before_commit m k (m.next_point p a) (d ++ rest)) (more_less c n)

  -- where what doesn't commit leaves what is seen of a point, that is told by how often it has committed
  module _ {X : Type 0} (seen : m.Point → X) (idle : (p : m.Point) (a : m.Asked) → m.commits_by p a ≡ 0 → seen (m.next_point p a) ≡ seen p) where
    before_first : (p : m.Point) (asked : List m.Asked) → seen (m.after p (before_commit m 0 p asked)) ≡ seen p
    before_first p [] = ap seen (o.stays p)
    before_first p (a ∷ asked) =
        let c = m.commits_by p a in
        let n = m.next_point p a in
        elim (cases_Bool (nat_lt 0 c)) [
          | inl t ↦ ap (λ (l : List m.Asked). seen (m.after p l)) (cond-true (nat_lt 0 c) [] (a ∷ before_commit m (0 - c) n asked) t) ∙ ap seen (o.stays p)
          | inr f ↦
              ap (λ (l : List m.Asked). seen (m.after p l)) (cond-false (nat_lt 0 c) [] (a ∷ before_commit m (0 - c) n asked) f)
              ∙ ap seen (o.leads p a (before_commit m (0 - c) n asked))
              ∙ ap (λ (k : ℕ). seen (m.after n (before_commit m k n asked))) (none_less c)
              ∙ before_first n asked ∙ idle p a (zero_if c f)
        ]

    pub state_told : (p : m.Point) (done rest : List m.Asked) → seen (m.after p done) ≡ seen (m.after p (before_commit m (m.committed p done) p (done ++ rest)))
    state_told p [] rest = ap seen (o.stays p) ∙ sym (ap (λ (k : ℕ). seen (m.after p (before_commit m k p rest))) (o.no_commit p) ∙ before_first p rest)
    state_told p (a ∷ d) rest =
        let n = m.next_point p a in
        ap seen (o.leads p a d) ∙ state_told n d rest
        ∙ sym (ap (λ (l : List m.Asked). seen (m.after p l)) (before_is p a d rest) ∙ ap seen (o.leads p a (before_commit m (m.committed n d) n (d ++ rest))))

  pub no_more_told : (p : m.Point) (done rest : List m.Asked) → IsFrontOf done (before_commit m (m.committed p done) p (done ++ rest))
  no_more_told p [] rest = front_none (before_commit m (m.committed p []) p rest)
  no_more_told p (a ∷ d) rest = subst (λ (l : List m.Asked). IsFrontOf (a ∷ d) l) (sym (before_is p a d rest))
      (front_cons a d (before_commit m (m.committed (m.next_point p a) d) (m.next_point p a) (d ++ rest)) (no_more_told (m.next_point p a) d rest))

  up_to_none : (p : m.Point) (asked : List m.Asked) → up_to_commit m 0 p asked ≡ []
  up_to_none p [] = refl
  up_to_none p (a ∷ asked) = refl

  pub all_told : (p : m.Point) (done rest : List m.Asked) → IsFrontOf (up_to_commit m (m.committed p done) p (done ++ rest)) done
  all_told p [] rest = ([], sym (ap (λ (l : List m.Asked). l ++ []) (ap (λ (k : ℕ). up_to_commit m k p rest) (o.no_commit p) ∙ up_to_none p rest)))
  all_told p (a ∷ d) rest =
      let c = m.commits_by p a in
      let q = m.next_point p a in
      let n = m.committed q d in
      let more = up_to_commit m (c + n - c) q (d ++ rest) in
      let is = ap (λ (k : ℕ). up_to_commit m k p (a ∷ (d ++ rest))) (o.commits p a d) in
      elim (cases_Bool (nat_eq (c + n) 0)) [
        | inl t ↦ subst (λ (l : List m.Asked). IsFrontOf l (a ∷ d)) (sym (is ∙ cond-true (nat_eq (c + n) 0) [] (a ∷ more) t)) (front_none (a ∷ d))
        | inr f ↦ subst (λ (l : List m.Asked). IsFrontOf l (a ∷ d))
            (sym (is ∙ cond-false (nat_eq (c + n) 0) [] (a ∷ more) f ∙ ap (λ (k : ℕ). a ∷ up_to_commit m k q (d ++ rest)) (more_less c n)))
            (front_cons a (up_to_commit m n q (d ++ rest)) d (all_told q d rest))
      ]

  -- ---- the replies that are written whole

  -- what comes before the last time that what is done commits is the first of it
  before_on : (p : m.Point) (a : m.Asked) (front asked : List m.Asked) (n : ℕ) → m.commits_by p a + n ≢ 0
      → (n ≢ 0 → IsFrontOf (before_commit m (n - 1) (m.next_point p a) asked) front) → IsFrontOf (before_commit m (m.commits_by p a + n - 1) p (a ∷ asked)) (a ∷ front)
  before_on p a front asked n some rest =
      let c = m.commits_by p a in
      let more = before_commit m (c + n - 1 - c) (m.next_point p a) asked in
      elim (cases_Bool (nat_lt (c + n - 1) c)) [
        | inl t ↦ subst (λ (l : List m.Asked). IsFrontOf l (a ∷ front)) (sym (cond-true (nat_lt (c + n - 1) c) [] (a ∷ more) t)) (front_none (a ∷ front))
        | inr g ↦ subst (λ (l : List m.Asked). IsFrontOf l (a ∷ front))
            (sym (cond-false (nat_lt (c + n - 1) c) [] (a ∷ more) g ∙ ap (λ (k : ℕ). a ∷ before_commit m k (m.next_point p a) asked) (one_less c n)))
            (front_cons a (before_commit m (n - 1) (m.next_point p a) asked) front (rest (still_some c n g some)))
      ]

  before_done : (p : m.Point) (done rest : List m.Asked) → m.committed p done ≢ 0 → IsFrontOf (before_commit m (m.committed p done - 1) p (done ++ rest)) done
  before_done p [] rest some = absurd (some (o.no_commit p))
  before_done p (a ∷ d) rest some =
      let is = o.commits p a d in
      subst (λ (k : ℕ). IsFrontOf (before_commit m (k - 1) p (a ∷ (d ++ rest))) (a ∷ d)) (sym is)
      (before_on p a d (d ++ rest) (m.committed (m.next_point p a) d) (λ e. some (is ∙ e)) (λ more. before_done (m.next_point p a) d rest more))

  -- and of all but the last of it
  before_last : (p : m.Point) (front : List m.Asked) (last : m.Asked) (rest : List m.Asked) → m.committed p (front ++ last ∷ []) ≢ 0
      → IsFrontOf (before_commit m (m.committed p (front ++ last ∷ []) - 1) p (front ++ last ∷ [] ++ rest)) front
  before_last p [] last rest some =
      let c = m.commits_by p last in
      let is = o.commits p last [] ∙ ap (λ (k : ℕ). c + k) (o.no_commit (m.next_point p last)) in
      subst (λ (k : ℕ). IsFrontOf (before_commit m (k - 1) p (last ∷ rest)) []) (sym is)
      (subst (λ (l : List m.Asked). IsFrontOf l [])
      (sym (cond-true (nat_lt (c + 0 - 1) c) [] (last ∷ before_commit m (c + 0 - 1 - c) (m.next_point p last) rest) (first_cut c (λ e. some (is ∙ e)))))
      (front_none []))
  before_last p (a ∷ f) last rest some =
      let is = o.commits p a (f ++ last ∷ []) in
      subst (λ (k : ℕ). IsFrontOf (before_commit m (k - 1) p (a ∷ (f ++ last ∷ [] ++ rest))) (a ∷ f)) (sym is)
      (before_on p a f (f ++ last ∷ [] ++ rest) (m.committed (m.next_point p a) (f ++ last ∷ [])) (λ e. some (is ∙ e)) (λ more. before_last (m.next_point p a) f last rest more))

  pub before_whole : (p : m.Point) (asked done : List m.Asked) → IsFrontOf done asked → m.committed p done ≢ 0 → IsFrontOf (before_commit m (m.committed p done - 1) p asked) done
  before_whole p asked done h some =
      subst (λ (l : List m.Asked). IsFrontOf (before_commit m (m.committed p done - 1) p l) done) (sym h.1) (before_done p done h.0 some)

  pub before_part : (p : m.Point) (asked done front : List m.Asked) (last : m.Asked) → done ≡ front ++ last ∷ [] → IsFrontOf done asked → m.committed p done ≢ 0
      → IsFrontOf (before_commit m (m.committed p done - 1) p asked) front
  before_part p asked done front last is h some =
      subst (λ (d : List m.Asked). IsFrontOf (before_commit m (m.committed p d - 1) p asked) front) (sym is)
      (subst (λ (l : List m.Asked). IsFrontOf (before_commit m (m.committed p (front ++ last ∷ []) - 1) p l) front) (sym (h.1 ∙ ap (λ d. d ++ h.0) is))
      (before_last p front last h.0 (λ e. some (ap (m.committed p) is ∙ e))))

  -- the replies to the first of several things are the first of theirs
  pub replies_begin : (p : m.Point) (xs ys : List m.Asked) → IsFrontOf xs ys → IsFrontOf (m.replies p xs) (m.replies p ys)
  replies_begin p xs ys h = (m.replies (m.after p xs) h.0, ap (m.replies p) h.1 ∙ (replies-append m o) p xs h.0)

  pub replies-push : (p : m.Point) (xs : List m.Asked) (a : m.Asked) → m.replies p (xs ++ a ∷ []) ≡ m.replies p xs ++ m.reply_of (m.after p xs) a
  replies-push p xs a =
      let q = m.after p xs in
      (replies-append m o) p xs (a ∷ [])
      ∙ ap (λ l. m.replies p xs ++ l) (o.replies q a [] ∙ ap (λ l. m.reply_of q a ++ l) (o.no_reply (m.next_point q a)) ∙ append-nil (m.reply_of q a))
