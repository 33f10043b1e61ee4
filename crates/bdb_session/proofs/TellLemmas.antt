-- How a session tells what changes nothing.
use Rattle.std.proofs.Common.{◌≡◌, ◌∙◌, ℕ, true, ◌&&◌, nat_le, List, Result, Ok, Err, OnOk, length, refl, sym, ap, subst, arith}
use Rattle.std.specs.List.{list_all}
use Rattle.std.proofs.lemmas.Bool.{and_parts}
use Rattle.bdb_base.specs.Alternation.{alternates}
use Rattle.bdb_base.specs.Bases.{is_user}
use Rattle.bdb_base.specs.Causes.{HasCause}
use Rattle.bdb_base.specs.declared.kinds.Catalog.{Catalog}
use Rattle.bdb_base.specs.declared.kinds.UserSlot.{UserSlot}
use Rattle.bdb_bind.specs.declared.bound.Bound.TheVariants.{ShowWorld}
use Rattle.bdb_bind.specs.Fits.{fits_path}
use Rattle.bdb_catalog.specs.Bases.{HasUsers, SomeHasUsers}
use Rattle.bdb_keep.specs.Seen.{Seen, NeverFall, GoesOn}
use Rattle.bdb_keep.specs.Tables.{Tables}
use Rattle.bdb_render.specs.Replies.{world_reply}
use Rattle.bdb_session.specs.declared.reply.Reply.{Reply}
use Rattle.bdb_session.specs.declared.error.StopError.{StopError}
use Rattle.bdb_session.specs.Known.{Known, Agrees, AgreesOnSome}
use Rattle.bdb_session.specs.Machine.{bound_outcome, world_at}
use Rattle.bdb_session.specs.Outcome.{State, Outcome, Done}
use Rattle.bdb_session.specs.Telling.{ReadsWithin, WritesNothing, world_reads}
use Rattle.bdb_session.specs.Within.{IsSaid, TellsWithin}
use Rattle.bdb_shown.specs.Showing.{ReadsWorld, ShowsWorld}
use Rattle.bdb_worlds.specs.Bounds.{EndsWithin}
use Rattle.bdb_session.proofs.WithinLemmas.{read_tells}

-- the cause of an error is that of another with the same one
pub other_cause : {T S E F : Type 0} (before now : ℕ) (e : E) (f : F) (fault : E) (other : F) → (f ≡ other → e ≡ fault)
    → HasCause {T = T} {E = E} before now (Err e) fault → HasCause {T = S} {E = F} before now (Err f) other
other_cause before now e f fault other same h = record { later = h.later; rose = λ is. let own : f ≡ other = cc in h.rose (ap Err (same own)) }

-- an Ok holds what holds at all
pub always_ok : {T E P : Type 0} (result : Result T E) → P → OnOk result P
always_ok (Ok x) p = p
always_ok (Err e) p = tt

-- what is said neither reads nor writes
pub said_reads : (c : Catalog) (o : Outcome) (mid new : Seen) (result : Result Reply StopError) → IsSaid c o mid new result → new.reads ≡ mid.reads
said_reads c o mid new (Ok r) said = ap (λ (x : Seen). x.reads) said.alone
said_reads c o mid new (Err stop) said = said.undone.reads

pub said_nothing : (c : Catalog) (o : Outcome) (old mid new : Seen) (result : Result Reply StopError) → mid.kept ≡ old.kept → mid.writes ≡ old.writes → IsSaid c o mid new result
    → WritesNothing old new result
said_nothing c o old mid new (Ok r) kept e said = record { kept = ap (λ (x : Seen). x.kept) said.alone ∙ kept; writes = ap (λ (x : Seen). x.writes) said.alone ∙ e }
said_nothing c o old mid new (Err stop) kept e said = record { kept = tt; writes = said.undone.writes ∙ e }

-- where nothing was read
pub same_reads_within : {T : Type 0} (k : Known) (old new : Seen) (result : Result T StopError) → new.reads ≡ old.reads → ReadsWithin (λ s. 0) k old new result
same_reads_within k old new result same = λ s a. always_ok result (λ small. (omega arith))

-- ---- the world of a path

-- the base of a state on which a session agrees is one that the tables store, with the users of the path
pub agreed_users : (t : Tables) (path : List ℕ) (k : Known) (s : State) → Agrees t k s → list_all (is_user k.catalog.users) path ≡ true → HasUsers t path s.base
agreed_users t path k s a own = record { base = a.base; own = sym (ap (λ (c : Catalog). list_all (is_user c.users) path) a.catalog) ∙ own }

-- a reply that shows the world of a path is that of the machine
pub world_outcome : (t : Tables) (k : Known) (s : State) (path text : List ℕ) → ShowsWorld t k.catalog path text → Agrees t k s → list_all (is_user k.catalog.users) path ≡ true
    → bound_outcome s (ShowWorld path) ≡ Done text 0 s
world_outcome t k s path text h a own =
    ap (λ (c : Catalog). Done (world_reply c (world_at s.base path)) 0 s) (sym a.catalog)
    ∙ ap (λ (x : List ℕ). Done x 0 s) (sym (h s.base (agreed_users t path k s a own)))

pub world_tells : (k : Known) (path text : List ℕ) (old mid new : Seen) (result : Result Reply StopError) → AgreesOnSome old.kept k → list_all (is_user k.catalog.users) path ≡ true
    → ShowsWorld old.kept k.catalog path text → NeverFall old mid → mid.kept ≡ old.kept → GoesOn old mid → ((s : State) → IsSaid k.catalog (Done text 0 s) mid new result)
    → TellsWithin (λ s. bound_outcome s (ShowWorld path)) k k old new result
world_tells k path text old mid new result some own is fall kept goes said =
    read_tells (λ s. bound_outcome s (ShowWorld path)) (λ s. Done text 0 s) k old mid new result some (record { goes = goes; counts = fall }) kept
    (λ s a. world_outcome old.kept k s path text is a own) (λ s. refl) said

pub world_reads_within : {T : Type 0} (k : Known) (path : List ℕ) (old mid new : Seen) (result : Result T StopError) → ReadsWorld old.kept path old.reads mid.reads
    → list_all (is_user k.catalog.users) path ≡ true → new.reads ≡ mid.reads → ReadsWithin (λ s. world_reads s.base path) k old new result
world_reads_within k path old mid new result most own same s a =
    let there : EndsWithin (world_reads s.base path) old.reads mid.reads = most s.base (agreed_users old.kept path k s a own) in
    always_ok result (subst (λ n. EndsWithin (world_reads s.base path) old.reads n) (sym same) there)

-- the users of a path that fits are those of the catalog
pub fitting_users : (users : List UserSlot) (limit : ℕ) (path : List ℕ) → fits_path users limit path ≡ true → list_all (is_user users) path ≡ true
fitting_users users limit path fits = (and_parts (alternates path && nat_le (length path) limit) (list_all (is_user users) path) fits).1

pub some_has_users : (t : Tables) (k : Known) (path : List ℕ) → AgreesOnSome t k → list_all (is_user k.catalog.users) path ≡ true → SomeHasUsers t path
some_has_users t k path h own = record {
  base = h.state.base;
  has = record { base = h.agrees.base; own = sym (ap (λ (c : Catalog). list_all (is_user c.users) path) h.agrees.catalog) ∙ own };
}
