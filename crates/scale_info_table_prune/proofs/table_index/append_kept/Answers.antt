use Rattle.std.proofs.Common.{rules, ◌≡◌, ◌<◌, ℕ, List, All, length, subst, sym, OnOk, Result, Ok, Err}
use Rattle.scale_info_bytes.specs.Encodings.{AppendsEncoding}
use Rattle.scale_info_bytes.specs.Integers.{EncodesCompact}
use Rattle.scale_info_passes.specs.Entries.{AreAtOffsets, AppendsKeptEntries}
use Rattle.scale_info_passes.specs.Visits.{renumbered}
use Rattle.scale_info_types.specs.declared.ty.PortableType.{PortableType}
use Rattle.scale_info_table_prune.specs.TableIndexes.{AppendsKeptTable}
use Rattle.scale_info_table_prune.proofs.TableIndexes.{appends_table}
use Rattle.scale_info_table_prune.proofs.table_index.append_kept.Goals as goal

appended :
    {A E : Type 0} (body offsets numbers order ds ns os old mid new : List ℕ) (n : ℕ) (r : Result A E)
    → ds ≡ offsets → ns ≡ numbers → os ≡ order → n ≡ length order → AppendsEncoding (EncodesCompact n) old mid
    → OnOk r ((entries : List PortableType) → AreAtOffsets body entries ds → AppendsKeptEntries entries (renumbered ns) os mid new)
    → OnOk r ((entries : List PortableType) → AreAtOffsets body entries offsets → AppendsKeptTable entries (renumbered numbers) order old new)
appended body offsets numbers order ds ns os old mid new n (Ok x) d e f l p h = λ entries at.
    appends_table entries (renumbered numbers) order n old mid new l p
    (subst (λ (xs : List ℕ). AppendsKeptEntries entries (renumbered xs) order mid new) e
    (subst (λ (xs : List ℕ). AppendsKeptEntries entries (renumbered ns) xs mid new) f
    (h entries (subst (λ (xs : List ℕ). AreAtOffsets body entries xs) (sym d) at))))
appended body offsets numbers order ds ns os old mid new n (Err x) d e f l p h = tt

pub renumber_entries-appended-requires-clause-within : goal.renumber_entries-appended-requires-clause-within
renumber_entries-appended-requires-clause-within c =
    subst (λ (os : List ℕ). All (λ entry. entry < length os) c.deref-3.result.now) (sym c.deref.ensures.value)
    (subst (λ (order : List ℕ). All (λ entry. entry < length c.args.index.now.offsets.items) order) (sym c.deref-3.ensures.value)
    c.requires.within)

pub returns-else-is_err-clause-ok : goal.returns-else-is_err-clause-ok
returns-else-is_err-clause-ok c =
    appended c.args.body.now c.args.index.now.offsets.items c.args.found.now.numbers.items c.args.found.now.order.items
    c.deref.result.now c.deref-2.result.now c.deref-3.result.now c.args.out.now.items c.encode_compact.new.out.items
    c.renumber_entries-appended.new.out.items c.len.result c.renumber_entries-appended.result
    c.deref.ensures.value c.deref-2.ensures.value c.deref-3.ensures.value (search rules)
    c.in_ok-encode_compact.ensures.ok c.renumber_entries-appended.ensures.ok
