-- What a store of rows with an undo list holds.
use Rattle.std.specs.Prelude.{ℕ, List, [], ◌∷◌, refl}
use Rattle.std.specs.Coded.{Coded, code_by, coded×, coded_ℕ, coded_list}
use Rattle.std.specs.FinMap as map
use Rattle.bdb_keep.specs.Tables.{Tables, coded_tables, set_at}

-- the rows as they read now, the rows last committed, and the places changed since, each once or more
pub record StoreContents : Type 0 where
  pub kept : Tables
  pub last : Tables
  pub changes : List (List ℕ)

-- what a store holds as plain data
abbrev pub coded_contents : Coded StoreContents
coded_contents = code_by (Tables × (Tables × List (List ℕ))) (coded× coded_tables (coded× coded_tables (coded_list (coded_list coded_ℕ))))
    (λ h. (h.kept, (h.last, h.changes))) (λ p. record { kept = p.0; last = p.1.0; changes = p.1.1 }) (λ _. refl)

-- the tables `t` with the rows that `now` has at some places written over them, one place after the other
abbrev pub written : List (List ℕ) → Tables → Tables → Tables
written [] now t = t
written (p ∷ ps) now t = written ps now (set_at t p (map.get now p))
