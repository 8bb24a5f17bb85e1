-- Definitions that are written again.
use Rattle.std.proofs.Common.{◌≡◌, ℕ, List, [], ◌∷◌, ◌++◌, refl, ap, subst, ◌∙◌, append_assoc}
use Rattle.scale_info_types.specs.Portable.{TypeDef}
use Rattle.scale_info_bytes.proofs.Index.{BeginsWith, after}
use Rattle.scale_info_grammar.specs.Ty.{EncodesTypeDef, EncodesTypeDefWithIndex}
use Rattle.scale_info_table_docs.specs.Changes.{AppendsChanged}
use Rattle.scale_info_table_docs.specs.WithoutDocs.{definition_without_docs}

-- an index byte and what comes after it encode a definition
after_index :
    (i : ℕ) (v : TypeDef) (b : List ℕ) → EncodesTypeDefWithIndex i v b → EncodesTypeDef v (i ∷ b)
after_index i v b e =
    record { index = i; indexed = record { rest = b; encodes_rest = e; parts = refl } }

-- an index byte is written, and then the parts of a definition are written again without docs
pub with_index :
    {A : Type 0} {S : A → List ℕ → Type 0} {f : A → A} {input rest old pushed now : List ℕ}
    (i : ℕ) (made : A → TypeDef) → ((v : A) (b : List ℕ) → S v b → EncodesTypeDefWithIndex i (made v) b)
    → ((v : A) → made (f v) ≡ definition_without_docs (made v)) → BeginsWith i input
    → pushed ≡ old ++ i ∷ [] → AppendsChanged S f (after input) rest pushed now
    → AppendsChanged EncodesTypeDef definition_without_docs input rest old now
with_index {f = f} {old = old} {now = now} i made encodes same begins written p = record {
  value = made p.value;
  prefix = record {
    encoding = i ∷ p.prefix.encoding;
    encodes = after_index i (made p.value) p.prefix.encoding (encodes _ _ p.prefix.encodes);
    parts = begins.is ∙ ap (λ t. i ∷ t) p.prefix.parts;
  };
  appends = record {
    encoding = i ∷ p.appends.encoding;
    encodes =
        subst (λ v. EncodesTypeDef v (i ∷ p.appends.encoding)) (same p.value)
        (after_index i (made (f p.value)) p.appends.encoding (encodes _ _ p.appends.encodes));
    parts =
        p.appends.parts ∙ ap (λ t. t ++ p.appends.encoding) written
        ∙ append_assoc old (i ∷ []) p.appends.encoding;
  };
}
