use Rattle.scale_info_json_bytes.proofs.text.TextTranscode.transcode.Goals as goal

pub returns-clause-ok : goal.returns-clause-ok
returns-clause-ok c = record {
  value = c.in_ok-text.text.now;
  read = c.in_ok-text.ensures.ok;
  tokens = c.in_ok-string.ensures.ok;
}
