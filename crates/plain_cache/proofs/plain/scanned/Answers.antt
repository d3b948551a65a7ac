-- The keys sorted and cut.
use Rattle.std.proofs.Common.{◌≡◌, ◌++◌, length, take, drop, map, sym, ap, ◌∙◌}
use Rattle.std.proofs.Math.Seq.{take-append_seam}
use Rattle.rows.specs.Apply.{in_order}
use Rattle.rows.specs.Key.{key_shown}
use Rattle.plain_cache.proofs.Scanned.{scanned_is, scanned_are_short}
use Rattle.row_lemmas.proofs.Laws.{scanned_keys_are_in_order-among}
use Rattle.plain_cache.proofs.plain.scanned.Goals as goal

pub returns-clause-keys : goal.returns-clause-keys
returns-clause-keys c =
    let keys = c.in_ok-keys.keys in
    let sorted = c.sort_keys.new.keys in
    let rest = drop (length sorted) keys.items in
    let many : keys.len ≡ length sorted = keys.ok.0 ∙ sym (c.sort_keys.auto.keys ∙ ap length c.deref_mut.ensures.value) in
    scanned_is (key_shown c.args.key.now) c.args.rows.now keys.items sorted c.truncate.new.self.items c.args.count
    c.in_ok-keys.ensures (c.sort_keys.ensures ∙ ap (λ list. in_order (map (λ key. key.now) list)) c.deref_mut.ensures.value)
    (c.truncate.ensures.items ∙ ap (take c.args.count) (ap (λ n. take n (sorted ++ rest)) many ∙ take-append_seam sorted rest))

pub returns-clause-short : goal.returns-clause-short
returns-clause-short c small =
    scanned_are_short (key_shown c.args.key.now) c.args.rows.now c.truncate.new.self.items c.args.count scanned_keys_are_in_order-among small
    (returns-clause-keys c)
