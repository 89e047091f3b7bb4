pub mod RespelledLemmas
