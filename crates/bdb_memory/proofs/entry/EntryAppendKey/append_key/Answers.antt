use Rattle.std.proofs.Common.{ℕ, List, ◌++◌, refl, sym, ap, ◌∙◌, append-nil}
use Rattle.bdb_memory.proofs.HeadsLemmas.{key_appended}
use Rattle.bdb_memory.proofs.entry.EntryAppendKey.append_key.Goals as goal

pub returns-then-not-has_rest-clause-ok : goal.returns-then-not-has_rest-clause-ok
returns-then-not-has_rest-clause-ok c =
    let key = c.append_to.new.key.items in
    key_appended c.args.bytes.now.items key key c.head_with-head.result _ _ _ c.args.self.now c.head_with-head.ensures c.self.view_is c.in_ok-append_to.ensures.ok
    (sym (ap (λ (rest : List ℕ). key ++ rest) (c.if-not-has_rest.ensures refl) ∙ append-nil key))

pub returns-clause-ok : goal.returns-clause-ok
returns-clause-ok c =
    key_appended c.args.bytes.now.items c.append_to.new.key.items _ c.head_with-head.result _ _ _ c.args.self.now c.head_with-head.ensures c.self.view_is c.in_ok-append_to.ensures.ok c.in_ok-append_rest.ensures.ok
