use Rattle.std.proofs.Common.{◌∷◌, sym, ap, subst, arith}
use Rattle.std.proofs.lemmas.Result.{IfOk-weaker}
use Rattle.json.specs.Token as spec
use Rattle.json.specs.Reads.{token_of}
use Rattle.scale_info_json_trees.specs.Meaning.{MeansList}
use Rattle.scale_info_json_text.specs.Readings.{HasNoTree}
use Rattle.scale_info_json_text.proofs.Stops.{syntax_weaker}
use Rattle.scale_info_json_text.proofs.Trees.{no_depth, no_array}
use Rattle.scale_info_json_text.proofs.Leaves.{array_kind, kind_of, not_kind}
use Rattle.scale_info_json_text.proofs.Lists.{list_read}
use Rattle.scale_info_json_text.proofs.list.ItemsJsonText.from_token.Goals as goal

pub returns-then-depth-eq0-clause-syntax : goal.returns-then-depth-eq0-clause-syntax
returns-then-depth-eq0-clause-syntax g c =
    subst (λ k. HasNoTree c.args.depth (token_of k ∷ c.args.source.now.reader)) (sym c.in-BeginArray.is) (no_depth c.args.depth spec.begin_array c.args.source.now.reader (omega arith) tt)

pub returns-in-BeginArray-clause-ok : goal.returns-in-BeginArray-clause-ok
returns-in-BeginArray-clause-ok g c =
    IfOk-weaker c.read_items.result _ _ (λ vs m. list_read g.T.JsonText.meant c.args.depth c.args.token c.args.source.now.reader c.read_items.new.source.reader vs c.in-BeginArray.is (omega arith) m) c.read_items.ensures.ok

pub returns-in-BeginArray-clause-syntax : goal.returns-in-BeginArray-clause-syntax
returns-in-BeginArray-clause-syntax g c =
    syntax_weaker c.read_items.result
    (λ e. subst (λ k. HasNoTree c.args.depth (token_of k ∷ c.args.source.now.reader)) (sym c.in-BeginArray.is) (no_array c.args.depth c.args.source.now.reader (omega arith) e))
    c.read_items.ensures.syntax

pub returns-clause-ok : goal.returns-clause-ok
returns-clause-ok g c =
    not_kind c.args.depth c.args.token c.args.source.now.reader c.pass_rest.new.reader (MeansList g.T.JsonText.meant) array_kind
    (λ tree v m. ap kind_of m.is) c.in_default.not-BeginArray c.in_ok-pass_rest.ensures.ok
