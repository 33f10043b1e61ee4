-- The statements that name a user, read world by world.
use Rattle.std.proofs.Common.{◌≡◌, ◌∙◌, ℕ, ◌+◌, ◌<◌, ◌≤◌, Bool, true, false, List, [], ◌∷◌, ◌++◌, filter, length, map, take, get_or, cond, refl, ap, sym, arith}
use Rattle.std.specs.List.{flat_map}
use Rattle.std.proofs.lemmas.Bool.{cond-true, cond-false}
use Rattle.std.proofs.lemmas.List.{append-nil, length-map, map-append, take_all}
use Rattle.bdb_base.specs.Bases.{key_lengths}
use Rattle.bdb_base.specs.Changes.{names_user, statements_naming}
use Rattle.bdb_base.specs.States.{states_of}
use Rattle.bdb_base.specs.WorldRows.{world_of}
use Rattle.bdb_base.specs.declared.kinds.Held.{Held}
use Rattle.bdb_base.specs.declared.kinds.Stmt.{Stmt}
use Rattle.bdb_base.proofs.WorldLemmas.{valid_is_consistent}
use Rattle.bdb_keep.specs.Tables.{Tables}
use Rattle.bdb_update.proofs.KeyLemmas.{lengths_fit}
use Rattle.bdb_val.specs.WorldReads.{AreRowsAt}
use Rattle.bdb_catalog.specs.Opening.{IsPartOf}
use Rattle.bdb_stored.specs.Worlds.{TellsStates}
use Rattle.bdb_names.specs.declared.named.NamedWorld.{NamedWorld}
use Rattle.bdb_stored.proofs.LinkLemmas.{flat_more}
use Rattle.bdb_stored.proofs.PlaceLemmas.{at_place}
use Rattle.bdb_leaving.specs.Naming.{AppendsNaming, naming_at, said, said_by_world}
use Rattle.bdb_leaving.proofs.NamingLemmas.{gathered_are_named}

-- ---- rows of one world

filter_push : (hs : List Held) (h : Held) → filter (λ g. g.explicit) (hs ++ h ∷ []) ≡ filter (λ g. g.explicit) hs ++ cond h.explicit (h ∷ []) []
filter_push [] h = refl
filter_push (g ∷ hs) h = by g.explicit (filter_push hs h)
  where
    by : (b : Bool) → filter (λ k. k.explicit) (hs ++ h ∷ []) ≡ filter (λ k. k.explicit) hs ++ cond h.explicit (h ∷ []) []
        → cond b (g ∷ filter (λ k. k.explicit) (hs ++ h ∷ [])) (filter (λ k. k.explicit) (hs ++ h ∷ [])) ≡ cond b (g ∷ filter (λ k. k.explicit) hs) (filter (λ k. k.explicit) hs) ++ cond h.explicit (h ∷ []) []
    by true e = ap (λ ks. g ∷ ks) e
    by false e = e

module _ (w : List ℕ) (hs : List Held) (h : Held) where
  said_push : said_by_world w (hs ++ h ∷ []) ≡ said_by_world w hs ++ map (said w) (cond h.explicit (h ∷ []) [])
  said_push = ap (map (said w)) (filter_push hs h) ∙ map-append (said w) (filter (λ g. g.explicit) hs) (cond h.explicit (h ∷ []) [])

  -- an explicit row more, and one that isn't
  pub said_more : h.explicit ≡ true → said_by_world w (hs ++ h ∷ []) ≡ said_by_world w hs ++ said w h ∷ []
  said_more e = said_push ∙ ap (λ b. said_by_world w hs ++ map (said w) (cond b (h ∷ []) [])) e

  pub said_still : h.explicit ≡ false → said_by_world w (hs ++ h ∷ []) ≡ said_by_world w hs
  said_still e = said_push ∙ ap (λ b. said_by_world w hs ++ map (said w) (cond b (h ∷ []) [])) e ∙ append-nil (said_by_world w hs)

-- ---- one world

module _ (t : Tables) (uid : ℕ) (x : NamedWorld) (now next : List Stmt) where
  pub appends_none : names_user uid x.path ≡ false → next ≡ now → AppendsNaming t uid x now next
  appends_none other same b v state =
      same ∙ sym (append-nil now) ∙ ap (λ ys. now ++ ys) (sym (cond-false (names_user uid x.path) (said_by_world x.path (world_of (key_lengths b.catalog.rels) b.stmts x.path)) [] other))

  pub appends_said : (rows : List Held) → names_user uid x.path ≡ true → AreRowsAt t x.wid rows → next ≡ now ++ said_by_world x.path rows → AppendsNaming t uid x now next
  appends_said rows named read made b v state =
      let s = v.stored.stored in
      let world = world_of (key_lengths b.catalog.rels) b.stmts x.path in
      let is : rows ≡ world =
      read (key_lengths b.catalog.rels) b.stmts v.stored.names v.stored.tuples x.path (lengths_fit t b.catalog.rels s.rels) (valid_is_consistent b.catalog b.stmts v.valid) s.states.names s.tuples s.rows state in
      made ∙ ap (λ hs. now ++ said_by_world x.path hs) is ∙ ap (λ ys. now ++ ys) (sym (cond-true (names_user uid x.path) (said_by_world x.path world) [] named))

-- ---- all worlds

-- those of the first states
abbrev pub FirstNaming : ℕ → Tables → ℕ → List Stmt → Type 0
FirstNaming k t uid xs = IsPartOf (λ b. flat_map (naming_at (key_lengths b.catalog.rels) b.stmts uid) (take k (states_of b.stmts))) t xs

module _ (t : Tables) (uid : ℕ) (worlds : List NamedWorld) (are : TellsStates t worlds) where
  pub naming_begins : FirstNaming 0 t uid []
  naming_begins b v = refl

  pub naming_more : (k : ℕ) (x d : NamedWorld) (now next : List Stmt) → k < length worlds → x ≡ get_or worlds k d → FirstNaming k t uid now → AppendsNaming t uid x now next → FirstNaming (k + 1) t uid next
  naming_more k x d now next l is first made b v =
      let a = at_place t b v worlds (are b v) k x d l is in
      let states = states_of b.stmts in
      let f = naming_at (key_lengths b.catalog.rels) b.stmts uid in
      made b v a.state ∙ ap (λ xs. xs ++ f x.path) (first b v) ∙ ap (λ w. flat_map f (take k states) ++ f w) a.path ∙ sym (flat_more f states k [] a.within)

  pub naming_all : (k : ℕ) (xs : List Stmt) → length worlds ≤ k → FirstNaming k t uid xs → IsPartOf (λ b. statements_naming uid b.stmts) t xs
  naming_all k xs l first b v =
      let states = states_of b.stmts in
      let n = ap length (are b v) ∙ length-map states _ in
      first b v ∙ ap (flat_map (naming_at (key_lengths b.catalog.rels) b.stmts uid)) (take_all k states (omega arith))
      ∙ gathered_are_named (key_lengths b.catalog.rels) b.stmts uid (valid_is_consistent b.catalog b.stmts v.valid) v.valid.stmts.sorted
