-- What the text that reads the rows is, over the one table.
use Rattle.std.proofs.Common.{◌≡◌, ℕ, List, [], ◌∷◌, codes, negsuc, pos, false, None, Some, Ok, refl, sym, subst}
use Rattle.sqlite_tied.specs.Compute.{everything}
use Rattle.sqlite_schema.specs.declared.schema.Schema.{Schema}
use Rattle.sqlite_schema.specs.declared.command.Command.TheVariants.{Select, InsertOr, Delete, CreateTable, Nothing}
use Rattle.sqlite_schema.specs.declared.command.Source.TheVariants.{Values}
use Rattle.sqlite_schema.specs.declared.command.Conflict.TheVariants.{Abort}
use Rattle.sqlite_schema.specs.declared.command.Upsert.{Upsert}
use Rattle.sqlite_value.specs.declared.value.Value.TheVariants.{Null, Int}
use Rattle.sqlite_value.specs.declared.keys.Collation.TheVariants.{Binary}
use Rattle.sqlite_sql.specs.Term.{Term, lit, col, op2}
use Rattle.sqlite_sql.specs.declared.ops.BinaryOp.TheVariants.{Compare}
use Rattle.sqlite_sql.specs.declared.ops.CompareOp.TheVariants.{Eq}
use Rattle.sqlite_sql.specs.Query.{Query, inner, end}
use Rattle.sqlite_value.specs.Keys.{ascending}
use Rattle.sqlite.specs.Given.{IsPlain}
use Rattle.sqlite.specs.Listing.{understood, reads_listing}
use Rattle.sqlite.specs.State.{State, Survives, CommitsShowing}
use Rattle.sqlite.proofs.StateLemmas.{survives_weaker}
use Rattle.sqlite.proofs.Callers.{never_commits, command_of, statement_of}
use Rattle.sqlite.specs.Change.{created}
use Rattle.sqlite.specs.Compile.{table_defined_by}
use Rattle.bdb_sql.specs.Kept.{kept_schema, kept_table, no_schema}

abbrev pub create_text : List ℕ
create_text = codes "create table if not exists kept(tab integer not null, k blob not null, v blob not null, primary key (tab, k)) strict"

abbrev pub select_text : List ℕ
select_text = codes "select tab, k, v from kept order by tab, k"

abbrev pub select_query : Query
select_query = record {
  from = inner 0 end;
  filter = [];
  group = None;
  project = col 1 1 ∷ col 1 2 ∷ col 1 3 ∷ [];
  distinct = false;
  collations = [];
  order = (col 1 1, ascending Binary) ∷ (col 1 2, ascending Binary) ∷ [];
  limit = lit (Int (negsuc 0));
  offset = lit (Int (pos 0));
}

pub select_is : (command_of (understood kept_schema select_text) ≡ Select (record { lets = []; body = select_query }) (codes "tab" ∷ codes "k" ∷ codes "v" ∷ [])) × (reads_listing kept_schema select_text ≡ false)
unfolding understood everything
select_is = (refl, refl)

-- it returns nothing that it wrote, and does not read the time
pub select_plain : IsPlain (understood kept_schema select_text)
unfolding understood everything
select_plain = (refl, refl)

-- the table is what the text that makes it makes
pub made_is : (table_defined_by create_text ≡ Ok kept_table) × (created no_schema kept_table ≡ kept_schema)
unfolding understood everything
made_is = (refl, refl)

-- so it commits nothing
pub commits_nothing : (old new : State) → old.now.schema ≡ kept_schema → Survives old new (CommitsShowing select_text [] old) → Survives old new (λ _. ⊥)
commits_nothing old new kept = survives_weaker old new _ _ (λ _ db. never_commits select_text [] old db (subst (λ (s : Schema). IsPlain (understood s select_text)) (sym kept) select_plain))

abbrev pub put_text : List ℕ
put_text = codes "insert into kept(tab, k, v) values (?1, ?2, ?3) on conflict (tab, k) do update set v = excluded.v"

abbrev pub remove_text : List ℕ
remove_text = codes "delete from kept where tab = ?1 and k = ?2"

-- the rows with this table and key
abbrev pub place_terms : List Term
place_terms = op2 (Compare Eq Binary) (col 1 1) (col 0 0) ∷ op2 (Compare Eq Binary) (col 1 2) (col 0 1) ∷ []

abbrev pub remove_query : Query
remove_query = record {
  from = inner 0 end;
  filter = place_terms;
  group = None;
  project = col 1 0 ∷ [];
  distinct = false;
  collations = [];
  order = [];
  limit = lit (Int (negsuc 0));
  offset = lit (Int (pos 0));
}

-- the row that stands there, with the new content
abbrev pub change_query : Query
change_query = record {
  from = inner 0 end;
  filter = op2 (Compare Eq Binary) (col 1 0) (col 0 3) ∷ [];
  group = None;
  project = col 1 0 ∷ col 1 0 ∷ col 1 1 ∷ col 1 2 ∷ col 0 7 ∷ [];
  distinct = false;
  collations = [];
  order = [];
  limit = lit (Int (negsuc 0));
  offset = lit (Int (pos 0));
}

abbrev pub put_terms : List Term
put_terms = lit Null ∷ col 0 0 ∷ col 0 1 ∷ col 0 2 ∷ []

abbrev pub put_clause : Upsert
put_clause = record { target = Some (1 ∷ 2 ∷ []); update = Some (record { lets = []; body = change_query }) }

abbrev pub put_clauses : List Upsert
put_clauses = put_clause ∷ []

pub put_is : command_of (understood kept_schema put_text) ≡ InsertOr 0 Abort (Values put_terms 4) put_clauses
unfolding understood everything
put_is = refl

pub put_plain : IsPlain (understood kept_schema put_text)
unfolding understood everything
put_plain = (refl, refl)

pub remove_is : command_of (understood kept_schema remove_text) ≡ Delete 0 (record { lets = []; body = remove_query })
unfolding understood everything
remove_is = refl

pub remove_plain : IsPlain (understood kept_schema remove_text)
unfolding understood everything
remove_plain = (refl, refl)

-- over nothing the text makes the table, and over the table it does nothing
pub create_is : (command_of (understood no_schema create_text) ≡ CreateTable) × (statement_of create_text (understood no_schema create_text) ≡ create_text)
unfolding understood everything
create_is = (refl, refl)

pub create_plain : IsPlain (understood no_schema create_text)
unfolding understood everything
create_plain = (refl, refl)

pub create_again_is : command_of (understood kept_schema create_text) ≡ Nothing
unfolding understood everything
create_again_is = refl

pub create_again_plain : IsPlain (understood kept_schema create_text)
unfolding understood everything
create_again_plain = (refl, refl)
