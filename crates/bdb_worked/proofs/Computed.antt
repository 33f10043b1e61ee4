-- The definitions, computed on the scripts.
use Rattle.std.proofs.Common.{refl}
use Rattle.std.specs.Str.{is_utf8, chars}
use Rattle.std.proofs.Math.Utf8.{encode}
use Rattle.std.specs.Fmt.{digits}
use Rattle.bdb_bind.specs.Lines.{text_line, items_line, relation_line, user_line, alias_twice_line, alias_line, missing_column, column_line, taken_line, key_line, repeat_line, deep_line, arity_line, set_kinds, cond_kinds, kind_line}
use Rattle.bdb_bind.specs.QueryBinding.{bound_query}
use Rattle.bdb_bind.specs.Refusal.{names_refused, unsafe_line, refusal_of}
use Rattle.bdb_bind.specs.Safe.{first_unbound}
use Rattle.bdb_parse.specs.Reading.{keyword_at, name_at, sign_at, target_at, list_of, inside_at, inside_of, kind_of, column_of, set_of, bare_of, col_at, col_of, side_of, test_of, cond_of, alias_of, item_of, create_user_of, key_of, create_relation_of, create_of, signed_of, insert_of, delete_of, update_of, query_of, explain_of, show_world_of, show_of, why_of, drop_of, one_word_of, command_after, command_by, command_of}
use Rattle.bdb_plan.specs.PlanOf.{plan_steps}
use Rattle.bdb_plan.specs.PlanText.{ref_text, who_text, operand_text, step_text, take_text}
use Rattle.bdb_worked.specs.Beliefs as beliefs
use Rattle.bdb_worked.specs.Changes as changes
use Rattle.bdb_worked.specs.Keys as keys
use Rattle.bdb_worked.specs.Leaving as leaving
use Rattle.bdb_worked.specs.Refusals as refusals
use Rattle.bdb_worked.specs.Structure as structure
use Rattle.bdb_worked.specs.Undoing as undoing
use Rattle.bdb_worked.specs.Worked.{IsAnswered}

all : IsAnswered beliefs.script beliefs.told × (IsAnswered structure.script structure.told
    × (IsAnswered changes.script changes.told × (IsAnswered refusals.script refusals.told
    × (IsAnswered keys.script keys.told × (IsAnswered leaving.script leaving.told
    × IsAnswered undoing.script undoing.told)))))
unfolding is_utf8 chars encode digits text_line items_line relation_line user_line alias_twice_line alias_line missing_column column_line taken_line key_line repeat_line deep_line arity_line set_kinds cond_kinds kind_line bound_query names_refused unsafe_line refusal_of first_unbound keyword_at name_at sign_at target_at list_of inside_at inside_of kind_of column_of set_of bare_of col_at col_of side_of test_of cond_of alias_of item_of create_user_of key_of create_relation_of create_of signed_of insert_of delete_of update_of query_of explain_of show_world_of show_of why_of drop_of one_word_of command_after command_by command_of plan_steps ref_text who_text operand_text step_text take_text
all = (refl, (refl, (refl, (refl, (refl, (refl, refl))))))

pub beliefs_are_told : IsAnswered beliefs.script beliefs.told
beliefs_are_told = all.0

pub structure_is_told : IsAnswered structure.script structure.told
structure_is_told = all.1.0

pub changes_are_told : IsAnswered changes.script changes.told
changes_are_told = all.1.1.0

pub refusals_are_told : IsAnswered refusals.script refusals.told
refusals_are_told = all.1.1.1.0

pub keys_are_told : IsAnswered keys.script keys.told
keys_are_told = all.1.1.1.1.0

pub leaving_is_told : IsAnswered leaving.script leaving.told
leaving_is_told = all.1.1.1.1.1.0

pub undoing_is_told : IsAnswered undoing.script undoing.told
undoing_is_told = all.1.1.1.1.1.1
