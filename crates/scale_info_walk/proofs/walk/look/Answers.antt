use Rattle.std.proofs.Common.{rules, arith, ◌≡◌, ◌≢◌, ◌<◌, ◌≤◌, ◌∷◌, ◌++◌, [], Some, length}
use Rattle.std.proofs.Common.{slice_get, inl, inr, refl, ap, ◌∙◌, ◌^◌, get_or}
use Rattle.std.proofs.lemmas.Option.{slice_get_read}
use Rattle.scale_info_numberings.specs.Systems.{here}
use Rattle.scale_info_walk.proofs.Visiting.{known, unknown, numbers_long, numbers_within, walk_more}
use Rattle.scale_info_walk.proofs.Visiting.{short_before}
use Rattle.scale_info_walk.proofs.walk.look.Given as given
use Rattle.scale_info_walk.proofs.walk.look.Goals as goal

pub returns-in_default-clause-cause : goal.returns-in_default-clause-cause
returns-in_default-clause-cause g c =
    let past : length c.args.walk.now.numbers.items ≤ c.args.id = search rules in
    let long = c.requires.long in (
      here c.args.walk.now.order.items [] c.args.id
          (λ k. let h = numbers_within c.args.walk.now.order.items c.args.walk.now.numbers.items c.requires.dense c.args.id k in omega arith)
          (g.R.References.outside c.args.source.now c.args.id (omega arith)),
      omega arith,
    )

pub returns-then-number-clause-look : goal.returns-then-number-clause-look
returns-then-number-clause-look g c =
    let order = c.args.walk.now.order.items in
    let numbers = c.args.walk.now.numbers.items in
    let number = c.in-Some.number.now in
    let inside : c.args.id < length numbers = search rules in
    let is : number ≡ get_or numbers c.args.id number = search rules in
    let at = slice_get_read numbers (length numbers) c.args.id number refl inside is in
    let some : number ≢ 4294967295 = search rules in
    inl (known order numbers c.requires.dense c.args.id number at some, refl, refl)

pub overflow_cast-number : goal.overflow_cast-number
overflow_cast-number g c =
    let h = numbers_long c.args.walk.now.order.items c.args.walk.now.numbers.items c.requires.dense in
    let l = c.requires.long in
    let f = c.requires.few in
    omega arith

-- what is known after an id without a number was added: it had none, it stands last in the order,
-- and it has few references
added :
    (g : given.Over) (c : goal.In_ok-prepend_refs g)
    → (slice_get c.args.walk.now.numbers.items c.args.id ≡ Some 4294967295)
    × (c.push.new.self.items ≡ c.args.walk.now.order.items ++ c.args.id ∷ [])
    × (length c.in_ok-prepend_refs.ensures.refs.0.refs < 2 ^ 63)
added g c =
    let numbers = c.args.walk.now.numbers.items in
    let number = c.in-Some.number.now in
    let inside : c.args.id < length numbers = search rules in
    let is : number ≡ get_or numbers c.args.id number = search rules in
    let none : number ≡ 4294967295 = search rules in
    let refs = c.in_ok-prepend_refs.ensures.refs in (
      slice_get_read numbers (length numbers) c.args.id number refl inside is ∙ ap Some none,
      search rules,
      short_before refs.0.refs c.args.refs.now c.prepend_refs.new.refs refs.2 c.in_ok-prepend_refs.ensures.few,
    )

pub returns-clause-walk : goal.returns-clause-walk
returns-clause-walk g c =
    let refs = c.in_ok-prepend_refs.ensures.refs in
    let next : c.len.result ≡ length c.args.walk.now.order.items = search rules in
    rw ((added g c).1, next)
    (walk_more (g.R.References.system c.args.source.now) (g.R.References.count c.args.source.now)
    c.args.walk.now.order.items c.args.walk.now.numbers.items c.args.walk.now.steps c.args.id refs.0 c.requires
    (added g c).0 refs.1 (added g c).2)

pub returns-clause-look : goal.returns-clause-look
returns-clause-look g c =
    let refs = c.in_ok-prepend_refs.ensures.refs in
    let long = c.requires.long in
    let small = c.requires.few in
    inr (
      refs.0,
      refs.1,
      unknown c.args.walk.now.order.items c.args.walk.now.numbers.items c.requires.dense c.args.id (added g c).0 (omega arith),
      (added g c).1,
      refs.2,
      (added g c).2,
    )
