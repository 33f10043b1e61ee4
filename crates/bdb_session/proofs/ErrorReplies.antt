-- The replies to what is done are lines that tell no error.
use Rattle.std.proofs.Common.{◌≡◌, ◌∙◌, ℕ, ◌==◌, Bool, true, false, List, [], ◌∷◌, ◌++◌, length, map, Option, Some, None, refl}
use Rattle.std.specs.Prelude.{codes}
use Rattle.std.specs.Fmt.{decimal}
use Rattle.std.specs.List.{flat_map, list_all, slice_get}
use Rattle.std.specs.Option.{option_map_or}
use Rattle.std.proofs.lemmas.Bool.{cond_both}
use Rattle.std.proofs.lemmas.List.Folds.{list_all-map}
use Rattle.bdb_base.specs.declared.kinds.Catalog.{Catalog}
use Rattle.bdb_base.specs.declared.kinds.ColDef.{ColDef}
use Rattle.bdb_base.specs.declared.kinds.Held.{Held}
use Rattle.bdb_base.specs.declared.kinds.Kind.{Kind}
use Rattle.bdb_base.specs.declared.kinds.Kind.TheVariants as kind
use Rattle.bdb_base.specs.declared.kinds.RelDef.{RelDef}
use Rattle.bdb_base.specs.declared.kinds.Sign.{Sign}
use Rattle.bdb_base.specs.declared.kinds.Sign.TheVariants.{Plus, Minus}
use Rattle.bdb_base.specs.declared.kinds.Value.{Value}
use Rattle.bdb_base.specs.declared.kinds.World.{World}
use Rattle.bdb_base.specs.declared.tuple.Tuple.{Tuple}
use Rattle.bdb_base.specs.Bases.{IsCatalog, is_valid_relation}
use Rattle.bdb_base.specs.Queries.{user_numbers}
use Rattle.bdb_base.specs.Texts.{column_text, joined, kind_text, quoted, user_text}
use Rattle.bdb_base.proofs.ListLemmas.{list_all_weaker}
use Rattle.bdb_canon.specs.declared.structure.Canon.{Canon}
use Rattle.bdb_canon.specs.declared.structure.CanonEdge.{CanonEdge}
use Rattle.bdb_canon.specs.declared.structure.CanonRow.{CanonRow}
use Rattle.bdb_canon.specs.declared.structure.CanonWorld.{CanonWorld}
use Rattle.bdb_canon.specs.Canonical.{line_count}
use Rattle.bdb_lex.specs.Spans.{lacks}
use Rattle.bdb_render.specs.Replies.{answer_line, count_reply, held_line, mark_text, ok_reply, path_text, relation_name, row_text, rows_reply, sign_text, signed_text, step_text, tuple_text, world_reply}
use Rattle.bdb_render.specs.Tables.{catalog_lines, columns_text, edge_line, key_text, relation_line, row_line, signed_at, structure_lines, suffix_text, tables_reply, tuple_line, user_line, world_line, world_path}
use Rattle.bdb_session.proofs.ErrorBases.{HasFlatNames, if_there, is_flat_row, is_flat_tuple, name_flat, names_flat, place_passes, relation_flat}
use Rattle.bdb_session.proofs.ErrorTexts.{IsFlat, IsQuiet, decimal_flat, flat_append, flat_each, is_flat_value, is_quiet, joined_flat, quiet_append, quiet_from, quiet_line, quiet_lines, quoted_flat, row_flat, row_tells_none}
use Rattle.bdb_session.specs.ErrorLines.{tells_error}

pub ok_quiet : IsQuiet ok_reply
ok_quiet = quiet_line (codes "ok") refl

pub count_quiet : (n : ℕ) → IsQuiet (count_reply n)
count_quiet n = quiet_line (codes "ok " ++ decimal n) (quiet_from (codes "ok " ++ decimal n) (flat_append (codes "ok ") (decimal n) refl (decimal_flat n)) refl)

-- ---- answers

pub rows_quiet : (rows : List (List Value)) → list_all (λ row. list_all is_flat_value row) rows ≡ true → IsQuiet (rows_reply rows)
rows_quiet rows h =
    quiet_append (flat_map answer_line rows) (count_reply (length rows))
    (quiet_lines (λ row. list_all is_flat_value row) row_text (λ row e. quiet_from (row_text row) (row_flat row e) (row_tells_none row)) rows h)
    (count_quiet (length rows))

-- ---- over the catalog of a valid base

mark_flat : (b : Bool) → IsFlat (mark_text b)
mark_flat true = refl
mark_flat false = refl

sign_flat : (s : Sign) → IsFlat (sign_text s)
sign_flat Plus = refl
sign_flat Minus = refl

kind_flat : (k : Kind) → IsFlat (kind_text k)
kind_flat kind.Int = refl
kind_flat kind.Text = refl

pub none_or : {X : Type 0} (p : X → Bool) (f : X → List ℕ) → ((x : X) → p x ≡ true → IsFlat (f x)) → (o : Option X) → if_there p o ≡ true → IsFlat (option_map_or f o [])
none_or p f h None e = refl
none_or p f h (Some x) e = h x e

all_numbers : {X : Type 0} (xs : List X) → list_all (λ x. true) xs ≡ true
all_numbers [] = refl
all_numbers (x ∷ xs) = all_numbers xs

module _ (c : Catalog) (v : IsCatalog c) where
  pub quoted_name_flat : (uid : ℕ) → IsFlat (quoted (user_text c uid))
  quoted_name_flat uid = quoted_flat (user_text c uid) (name_flat c v uid)

  step_flat : (uid : ℕ) → IsFlat (step_text c uid)
  step_flat uid = flat_append (codes "/") (quoted (user_text c uid)) refl (quoted_name_flat uid)

  pub path_flat : (w : List ℕ) → IsFlat (path_text c w)
  path_flat [] = refl
  path_flat (uid ∷ w) = flat_each (step_text c) step_flat (uid ∷ w)

  pub tuple_text_flat : (t : Tuple) → is_flat_tuple t ≡ true → IsFlat (tuple_text c t)
  tuple_text_flat t h =
      let name = relation_name c t.rel in
      flat_append (name ++ codes "(" ++ row_text t.vals) (codes ")")
      (flat_append (name ++ codes "(") (row_text t.vals) (flat_append name (codes "(") (relation_flat c.rels t.rel v.rels_valid) refl) (row_flat t.vals h)) refl

  pub signed_flat : (s : Sign) (t : Tuple) → is_flat_tuple t ≡ true → IsFlat (signed_text c s t)
  signed_flat s t h =
      flat_append (sign_text s ++ codes " ") (tuple_text c t) (flat_append (sign_text s) (codes " ") (sign_flat s) refl) (tuple_text_flat t h)

  -- ---- worlds

  held_quiet : (held : Held) → is_flat_row held ≡ true → is_quiet (signed_text c held.sign held.tuple ++ codes " " ++ mark_text held.explicit) ≡ true
  held_quiet held h =
      let signed = signed_text c held.sign held.tuple in
      quiet_from (signed ++ codes " " ++ mark_text held.explicit)
      (flat_append (signed ++ codes " ") (mark_text held.explicit) (flat_append signed (codes " ") (signed_flat held.sign held.tuple h) refl) (mark_flat held.explicit))
      (by held.sign held.tuple)
    where
      by : (s : Sign) (t : Tuple) → tells_error (signed_text c s t ++ codes " " ++ mark_text held.explicit) ≡ false
      by Plus t = refl
      by Minus t = refl

  pub world_quiet : (w : World) → list_all is_flat_row w.held ≡ true → IsQuiet (world_reply c w)
  world_quiet w h =
      quiet_append (flat_map (held_line c) w.held) (count_reply (length w.held))
      (quiet_lines is_flat_row (λ held. signed_text c held.sign held.tuple ++ codes " " ++ mark_text held.explicit) held_quiet w.held h)
      (count_quiet (length w.held))

  -- ---- the tables

  user_quiet : (uid : ℕ) → true ≡ true → is_quiet (codes "user " ++ decimal uid ++ codes " " ++ quoted (user_text c uid)) ≡ true
  user_quiet uid h =
      let name = quoted (user_text c uid) in
      quiet_from (codes "user " ++ decimal uid ++ codes " " ++ name)
      (flat_append (codes "user " ++ decimal uid ++ codes " ") name
      (flat_append (codes "user " ++ decimal uid) (codes " ") (flat_append (codes "user ") (decimal uid) refl (decimal_flat uid)) refl) (quoted_name_flat uid)) refl

  column_flat : (col : ColDef) → lacks 10 col.name ≡ true → lacks 10 (column_text col) ≡ true
  column_flat col h = flat_append (col.name ++ codes " ") (kind_text col.kind) (flat_append col.name (codes " ") h refl) (kind_flat col.kind)

  columns_flat : (def : RelDef) → HasFlatNames def → IsFlat (columns_text def)
  columns_flat def h =
      let cols = joined (map column_text def.cols) in
      flat_append (codes "relation " ++ def.name ++ codes "(" ++ cols) (codes ")")
      (flat_append (codes "relation " ++ def.name ++ codes "(") cols
      (flat_append (codes "relation " ++ def.name) (codes "(") (flat_append (codes "relation ") def.name refl h.name) refl)
      (joined_flat (map column_text def.cols)
      (list_all-map (lacks 10) column_text def.cols ∙ list_all_weaker (λ c. lacks 10 c.name) (λ c. lacks 10 (column_text c)) column_flat def.cols h.cols))) refl

  key_flat : (key : ℕ) → IsFlat (key_text key)
  key_flat key = cond_both (key == 1) [] (codes " key " ++ decimal key) (λ t. IsFlat t) (λ e. refl) (λ e. flat_append (codes " key ") (decimal key) refl (decimal_flat key))

  relation_quiet : (def : RelDef) → is_valid_relation def ≡ true → is_quiet (columns_text def ++ key_text def.key) ≡ true
  relation_quiet def h = quiet_from (columns_text def ++ key_text def.key) (flat_append (columns_text def) (key_text def.key) (columns_flat def (names_flat def h)) (key_flat def.key)) refl

  catalog_quiet : IsQuiet (catalog_lines c)
  catalog_quiet =
      quiet_append (flat_map (user_line c) (user_numbers c.users)) (flat_map relation_line c.rels)
      (quiet_lines (λ uid. true) (λ uid. codes "user " ++ decimal uid ++ codes " " ++ quoted (user_text c uid)) user_quiet (user_numbers c.users) (all_numbers (user_numbers c.users)))
      (quiet_lines is_valid_relation (λ def. columns_text def ++ key_text def.key) relation_quiet c.rels v.rels_valid)

  tuple_quiet : (t : Tuple) → is_flat_tuple t ≡ true → is_quiet (codes "tuple " ++ tuple_text c t) ≡ true
  tuple_quiet t h = quiet_from (codes "tuple " ++ tuple_text c t) (flat_append (codes "tuple ") (tuple_text c t) refl (tuple_text_flat t h)) refl

  module _ (k : Canon) where
    suffix_flat : (o : Option ℕ) → IsFlat (suffix_text c k o)
    suffix_flat None = refl
    suffix_flat (Some at) = flat_append (codes " suffix ") (path_text c (world_path k at)) refl (path_flat (world_path k at))

    world_line_quiet : (w : CanonWorld) → true ≡ true
        → is_quiet (codes "world " ++ path_text c w.path ++ codes " depth " ++ decimal (length w.path) ++ suffix_text c k w.suffix) ≡ true
    world_line_quiet w h =
        let path = path_text c w.path in
        let deep = decimal (length w.path) in
        quiet_from (codes "world " ++ path ++ codes " depth " ++ deep ++ suffix_text c k w.suffix)
        (flat_append (codes "world " ++ path ++ codes " depth " ++ deep) (suffix_text c k w.suffix)
        (flat_append (codes "world " ++ path ++ codes " depth ") deep
        (flat_append (codes "world " ++ path) (codes " depth ") (flat_append (codes "world ") path refl (path_flat w.path)) refl) (decimal_flat (length w.path)))
        (suffix_flat w.suffix)) refl

    edge_quiet : (e : CanonEdge) → true ≡ true
        → is_quiet (codes "edge " ++ path_text c (world_path k e.from) ++ codes " " ++ quoted (user_text c e.uid) ++ codes " " ++ path_text c (world_path k e.to)) ≡ true
    edge_quiet e h =
        let from = path_text c (world_path k e.from) in
        let name = quoted (user_text c e.uid) in
        let to = path_text c (world_path k e.to) in
        quiet_from (codes "edge " ++ from ++ codes " " ++ name ++ codes " " ++ to)
        (flat_append (codes "edge " ++ from ++ codes " " ++ name ++ codes " ") to
        (flat_append (codes "edge " ++ from ++ codes " " ++ name) (codes " ")
        (flat_append (codes "edge " ++ from ++ codes " ") name
        (flat_append (codes "edge " ++ from) (codes " ") (flat_append (codes "edge ") from refl (path_flat (world_path k e.from))) refl) (quoted_name_flat e.uid)) refl)
        (path_flat (world_path k e.to))) refl

    signed_at_flat : list_all is_flat_tuple k.tuples ≡ true → (s : Sign) (at : ℕ) → IsFlat (signed_at c k s at)
    signed_at_flat h s at = none_or is_flat_tuple (signed_text c s) (signed_flat s) (slice_get k.tuples at) (place_passes is_flat_tuple k.tuples at h)

    row_quiet : list_all is_flat_tuple k.tuples ≡ true → (r : CanonRow) → true ≡ true
        → is_quiet (codes "row " ++ path_text c (world_path k r.world) ++ codes " " ++ signed_at c k r.sign r.tuple ++ codes " " ++ mark_text r.explicit) ≡ true
    row_quiet t r h =
        let path = path_text c (world_path k r.world) in
        let signed = signed_at c k r.sign r.tuple in
        quiet_from (codes "row " ++ path ++ codes " " ++ signed ++ codes " " ++ mark_text r.explicit)
        (flat_append (codes "row " ++ path ++ codes " " ++ signed ++ codes " ") (mark_text r.explicit)
        (flat_append (codes "row " ++ path ++ codes " " ++ signed) (codes " ")
        (flat_append (codes "row " ++ path ++ codes " ") signed
        (flat_append (codes "row " ++ path) (codes " ") (flat_append (codes "row ") path refl (path_flat (world_path k r.world))) refl) (signed_at_flat t r.sign r.tuple)) refl)
        (mark_flat r.explicit)) refl

    structure_quiet : list_all is_flat_tuple k.tuples ≡ true → IsQuiet (structure_lines c k)
    structure_quiet h =
        let tuples = flat_map (tuple_line c) k.tuples in
        let worlds = flat_map (world_line c k) k.worlds in
        let edges = flat_map (edge_line c k) k.edges in
        let rows = flat_map (row_line c k) k.rows in
        quiet_append (tuples ++ worlds ++ edges) rows
        (quiet_append (tuples ++ worlds) edges
        (quiet_append tuples worlds
        (quiet_lines is_flat_tuple (λ t. codes "tuple " ++ tuple_text c t) tuple_quiet k.tuples h)
        (quiet_lines (λ w. true) (λ w. codes "world " ++ path_text c w.path ++ codes " depth " ++ decimal (length w.path) ++ suffix_text c k w.suffix)
        world_line_quiet k.worlds (all_numbers k.worlds)))
        (quiet_lines (λ e. true) (λ e. codes "edge " ++ path_text c (world_path k e.from) ++ codes " " ++ quoted (user_text c e.uid) ++ codes " " ++ path_text c (world_path k e.to))
        edge_quiet k.edges (all_numbers k.edges)))
        (quiet_lines (λ r. true) (λ r. codes "row " ++ path_text c (world_path k r.world) ++ codes " " ++ signed_at c k r.sign r.tuple ++ codes " " ++ mark_text r.explicit)
        (row_quiet h) k.rows (all_numbers k.rows))

    pub tables_quiet : list_all is_flat_tuple k.tuples ≡ true → IsQuiet (tables_reply c k)
    tables_quiet h =
        quiet_append (catalog_lines c ++ structure_lines c k) (count_reply (line_count c k))
        (quiet_append (catalog_lines c) (structure_lines c k) catalog_quiet (structure_quiet h)) (count_quiet (line_count c k))
