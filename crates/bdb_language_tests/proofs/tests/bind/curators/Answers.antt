use Rattle.std.proofs.Common.{◌≡◌, ℕ, List, [], ◌∷◌, refl, rules}
use Rattle.std.specs.Str.{is_utf8, chars}
use lib.Utf8.{encode}
use Rattle.bdb_base.specs.declared.kinds.ColDef.{ColDef}
use Rattle.bdb_base.specs.declared.kinds.RelDef.{RelDef}
use Rattle.bdb_base.specs.declared.kinds.Kind.TheVariants as kind
use Rattle.bdb_base.specs.declared.kinds.UserSlot.{UserSlot}
use Rattle.bdb_base.specs.declared.kinds.UserSlot.TheVariants.{Live, Gone}
use Rattle.bdb_base.specs.Bases.{IsCatalog}
use Rattle.bdb_language_tests.proofs.tests.bind.curators.Goals as goal

-- a catalog with these names is valid
valid_with : (rels : List RelDef) (users : List UserSlot) (cols : List ColDef) (k v s a b : List ℕ) → users ≡ Live a ∷ Live b ∷ Gone ∷ [] → rels ≡ record { name = s; cols = cols; key = 1 } ∷ []
    → cols ≡ record { name = k; kind = kind.Text } ∷ record { name = v; kind = kind.Text } ∷ []
    → k ≡ 107 ∷ [] → v ≡ 118 ∷ [] → s ≡ 83 ∷ [] → a ≡ 65 ∷ 108 ∷ 105 ∷ 99 ∷ 101 ∷ [] → b ≡ 66 ∷ 111 ∷ 98 ∷ [] → IsCatalog (record { rels = rels; users = users })
unfolding is_utf8 chars encode
valid_with rels users cols k v s a b users_are rels_are cols_are k_is v_is s_is a_is b_is =
    rw (users_are, rels_are, cols_are, k_is, v_is, s_is, a_is, b_is)
    (record { users_differ = refl; users_plain = refl; few_users = refl; rels_differ = refl; rels_valid = refl; few_rels = refl })

pub returns-clause-valid : goal.returns-clause-valid
returns-clause-valid c = valid_with c.from_vec-rels.result c.from_vec-users.result c.from_vec-cols.result c.in_ok-k.k c.in_ok-v.v c.in_ok-name.name c.in_ok-alice.alice c.in_ok-bob.bob
    (search rules) (search rules) (search rules) (search rules) (search rules) (search rules) (search rules) (search rules)
